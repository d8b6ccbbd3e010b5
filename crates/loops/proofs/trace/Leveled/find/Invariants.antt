use Rattle.std.proofs.Common.{ℕ, ◌<◌}
use Rattle.loops.specs.Walks.{ClosesAt}
use Rattle.loops.proofs.trace.Leveled.find.Given as goal

abbrev pub invariant-loop-start : goal.invariant-loop-start
invariant-loop-start l = (s : ℕ) → s < l.start → ClosesAt l.self.levels.now l.self.items.now l.path s → ⊥
