use Rattle.std.proofs.Common.{◌≡◌, ℕ, ◌+◌, Bool, true, false, cond, map, refl, sym, ◌∙◌, arith, rules, tests}
use Rattle.std.proofs.lemmas.Iterator.{YieldsList-from_slice}
use Rattle.std.proofs.lemmas.Iterator.Consumers.{YieldsList-from_filter, count_from_yields_List}
use Rattle.std.proofs.lemmas.List.Recursion.{is_count_by}
use Rattle.std.proofs.lemmas.List.Sums.{length-filter}
use Rattle.book.specs.declared.row.Row.{Row as HeldRow}
use Rattle.book.specs.Book.{is_frame, count, frames}
use Rattle.book.specs.Held.{row_of}
use Rattle.book.proofs.counts.frames.Goals as goal

one_more : (b : Bool) (n : ℕ) → count b + n ≡ cond b (1 + n) n
one_more true n = refl
one_more false n = omega arith

pub returns-clause-is : goal.returns-clause-is
returns-clause-is c =
    let rows = c.args.rows.now in
    let is_it : HeldRow → Bool = λ r. is_frame r.mark in
    count_from_yields_List c.filter.result _ c.count.ensures.ran (YieldsList-from_filter _ is_it (YieldsList-from_slice rows cc) c.filter.ensures.closure (λ x b q k. search (rules, tests)))
    ∙ (length-filter is_it rows
    ∙ sym (is_count_by (λ xs. frames (map row_of xs)) is_it refl (λ x xs. one_more (is_frame x.mark) (frames (map row_of xs))) rows))
