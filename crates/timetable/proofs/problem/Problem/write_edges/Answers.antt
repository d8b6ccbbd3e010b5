use Rattle.std.proofs.Common.{◌≡◌, ◌+◌, ◌-◌, ◌<◌, length, get_or, take, drop, List, sym, ap, ◌∙◌, arith}
use Rattle.std.proofs.lemmas.List.{length-drop, take_all}
use Rattle.book.specs.declared.row.Row.{Row}
use Rattle.timetable.specs.Problem.{MarkedIn}
use Rattle.timetable.proofs.Numbered.{length-edges, built_none, edges_more}
use Rattle.timetable.proofs.problem.Problem.write_edges.Goals as goal

-- the rows from event 1 on, as they are lent
all_but_first : (rows : List Row) → take (length rows - 1) (drop 1 rows) ≡ drop 1 rows
all_but_first rows = take_all (length rows - 1) (drop 1 rows) (omega (arith, length-drop 1 rows))

pub loop-place-init : goal.loop-place-init
loop-place-init c = built_none _ _ c.args.items.now (c.requires ∙ sym (length-edges c.args.self.now.rows.now))

pub loop-place-preserved : goal.loop-place-preserved
loop-place-preserved c =
    let p = c.args.self.now in
    let rows = p.rows.now in
    let k = c.loop-place.place in
    let r = c.row-item.result in
    let t = c.loop-place-test.true in
    let l : k + 1 < length rows = omega (arith, ap length (all_but_first rows), length-drop 1 rows) in
    edges_more (MarkedIn p) rows c.loop-place.items k c.not_before.result c.not_after.result r c.loop-place.invariant l (c.row-item.is ∙ ap (λ (xs : List Row). get_or xs k r) (all_but_first rows))
    c.not_before.ensures.same c.not_after.ensures.same c.not_before.ensures.marked c.not_after.ensures.marked
