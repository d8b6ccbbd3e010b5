use Rattle.std.proofs.Common.{◌*◌, drop}
use Rattle.timetable.specs.Chains.{edge_items}
use Rattle.timetable.specs.Problem.{rows_of, MarkedIn}
use Rattle.timetable.proofs.Numbered.{Built}
use Rattle.timetable.proofs.problem.Problem.write_edges.Given as goal

abbrev pub invariant-loop-place : goal.invariant-loop-place
invariant-loop-place l = Built (MarkedIn l.self) (edge_items 1 (drop 1 (rows_of l.self))) l.items (2 * l.place)
