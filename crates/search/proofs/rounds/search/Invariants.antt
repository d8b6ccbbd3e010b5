use Rattle.search.specs.Rounds.{Run}
use Rattle.search.proofs.rounds.search.Given as goal

abbrev pub invariant-loop-made : goal.invariant-loop-made
invariant-loop-made g l = Run g.R.Reading.kind l.items l.start l.made l.layer l.causes l.last
