use Rattle.std.proofs.Common.{◌≡◌, ◌<◌, Bool, true, ◌&&◌, List, [], ◌∷◌, map, length, sym, refl, ap, ◌∙◌, arith, rules, tests}
use Rattle.std.proofs.lemmas.Iterator.{YieldsList-from_slice}
use Rattle.std.proofs.lemmas.Iterator.Search.{all_from_yields_List}
use Rattle.book.specs.declared.row.Row.{Row as HeldRow}
use Rattle.book.specs.declared.row.Gap.{Gap as HeldGap}
use Rattle.book.specs.Book.{framed, opens, joins, all_join}
use Rattle.book.specs.Held.{row_of, gap_of}
use Rattle.timetable.specs.Problem.{rows_of, gaps_of}
use Rattle.timetable.proofs.Numbered.{all_join_is}
use Rattle.timetable.proofs.problem.Problem.stands.Goals as goal

-- the first of some rows
opened : (rows : List HeldRow) → 0 < length rows → framed (map row_of rows) 0 ≡ opens (map row_of rows)
opened [] l = absurd (omega arith)
opened (r ∷ rs) l = refl

pub returns-then-is_frame : goal.returns-then-is_frame
returns-then-is_frame c =
    let p = c.args.self.now in
    let n = length p.rows.now in
    let o : true ≡ opens (rows_of p) = sym c.if-is_frame.true ∙ (c.is_frame.ensures p.some ∙ opened p.rows.now p.some) in
    all_from_yields_List (λ (g : HeldGap). joins n (gap_of g)) _ _ c.all.result c.all.ensures.ran (YieldsList-from_slice p.gaps.now cc) (λ x b q k. search (rules, tests))
    ∙ (all_join_is n p.gaps.now ∙ ap (λ (x : Bool). x && all_join n (gaps_of p)) o)
