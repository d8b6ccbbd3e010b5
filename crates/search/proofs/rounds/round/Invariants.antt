use Rattle.std.proofs.Common.{take}
use Rattle.search.specs.Rounds.{row_of, Passed}
use Rattle.search.proofs.rounds.round.Given as goal

abbrev pub invariant-loop-number : goal.invariant-loop-number
invariant-loop-number g l = Passed g.R.Reading.kind l.items (take l.number l.items) (row_of l.layer) l.next l.why l.changed
