use Rattle.std.proofs.Common.{arith}
use Rattle.loops.proofs.Traces.{walk_some, walk_next}
use Rattle.loops.proofs.trace.walk.Goals as goal

pub unwrap-number-requires : goal.unwrap-number-requires
unwrap-number-requires c = walk_some c.args.items.now _ _ c.requires.run.1 c.loop-round.invariant.1 c.in-Some.ensures.steps.1.0

pub loop-round-preserved : goal.loop-round-preserved
loop-round-preserved c =
    let s = c.in-Some.ensures.steps in
    let zero = c.loop-round.invariant.0 in
    ((cc), walk_next c.args.items.now _ _ c.requires.run.1 c.loop-round.invariant.1 s.1.0 c.unwrap-number.ensures c.index-items-number.is (omega arith))
