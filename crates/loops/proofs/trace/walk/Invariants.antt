use Rattle.std.proofs.Common.{◌≡◌}
use Rattle.std.specs.Iterator.Adapters.{rev_source, enumerate_source, enumerate_count}
use Rattle.std.specs.Slice.Iter.{iter_rest}
use Rattle.loops.proofs.Traces.{Walking}
use Rattle.loops.proofs.trace.walk.Given as goal

abbrev pub invariant-loop-round : goal.invariant-loop-round
invariant-loop-round l = (enumerate_count (rev_source l.round-iterator) ≡ 0) × Walking l.items l.causes (iter_rest (enumerate_source (rev_source l.round-iterator))) l.at l.path
