use Rattle.std.proofs.Common.{◌≡◌, false, length, sym, ◌∙◌, arith, w64, SFits, rules}
use Rattle.std.proofs.lemmas.Int.{to_z-of_z}
use Rattle.std.proofs.lemmas.Bool.{lt-ltb}
use Rattle.book.specs.Limits.{most_events}
use Rattle.book.specs.Book.{has_name}
use Rattle.book.specs.Held.{book_of}
use Rattle.planner.proofs.Answering.{same_row}
use Rattle.planner.proofs.Holds.{rows_many}
use Rattle.planner.proofs.plan.calls.row_of.Goals as goal

pub returns-in_default : goal.returns-in_default
returns-in_default c =
    let t = c.args.table.now in
    let e : SFits w64 c.args.earliest = search rules in
    let l : SFits w64 c.args.latest = search rules in
    let roomy = lt-ltb (length (book_of t).rows) most_events (omega (arith, rows_many t)) in
    let taken : has_name (book_of t).rows c.args.name.now ≡ false = sym c.number_of.ensures.test ∙ sym c.if-is_some.ensures in
    let window = simp to_z-of_z at c.in_default.ensures in
    rw (roomy, c.in_ok-spelled.ensures.0, taken, window)

pub returns : goal.returns
returns c =
    let t = c.args.table.now in
    let e : SFits w64 c.args.earliest = search rules in
    let l : SFits w64 c.args.latest = search rules in
    let roomy = lt-ltb (length (book_of t).rows) most_events (omega (arith, rows_many t)) in
    let named = c.in_ok-spelled.ensures in
    let taken : has_name (book_of t).rows c.args.name.now ≡ false = sym c.number_of.ensures.test ∙ sym c.if-is_some.ensures in
    let window = simp to_z-of_z at c.in-Some.ensures in
    (rw (roomy, named.0, taken, window.0), same_row c.args.mark _ _ _ _ _ _ named.1 window.1 window.2)
