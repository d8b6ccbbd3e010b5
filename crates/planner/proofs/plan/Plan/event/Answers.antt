use Rattle.std.proofs.Common.{refl, w64, SFits, rules}
use Rattle.std.proofs.lemmas.Int.{to_z-of_z}
use Rattle.book.specs.Held.{row_of, book_of}
use Rattle.planner.specs.Calls.{event, refused}
use Rattle.planner.proofs.Answering.{by_want, rows_undone}
use Rattle.planner.proofs.Holds.{opens_with_row, joined_with_row}
use Rattle.planner.proofs.plan.Plan.event.Goals as goal

pub returns-in-Err : goal.returns-in-Err
returns-in-Err c =
    let b = book_of c.args.self.now.table in
    let e : SFits w64 c.args.earliest = search rules in
    let l : SFits w64 c.args.latest = search rules in
    let r = simp to_z-of_z at c.in_ok-row.ensures in
    record {
      answer = by_want b (event c.args.name.now c.args.mark c.args.earliest c.args.latest) (refused 14) (book_of c.pop_row.new.self) 14 r.0 refl refl
          (rows_undone b (book_of c.push_row.new.self) (book_of c.pop_row.new.self) (row_of c.in_ok-row.row) c.push_row.ensures.book c.pop_row.ensures);
      stays = c.in-Err.ensures;
    }

pub invariant_of-self-in_default : goal.invariant_of-self-in_default
invariant_of-self-in_default c =
    let p = c.args.self.now in
    let b = book_of p.table in
    let z = book_of c.push_row.new.self in
    record {
      framed_opening = opens_with_row b z (row_of c.in_ok-row.row) c.push_row.ensures.book p.framed_opening;
      joined = joined_with_row b z (row_of c.in_ok-row.row) c.push_row.ensures.book p.joined;
    }
