use Rattle.std.proofs.Common.{slice_range}
use Rattle.loops.proofs.Cuts.{reduces}
use Rattle.loops.proofs.Readings.{excludes}
use Rattle.loops.specs.Loops.{Reducing, picked}
use Rattle.loops.proofs.trace.loop_behind.Goals as goal

pub returns : goal.returns
returns c =
    let s = c.requires.steps in
    let part = c.find.result in
    let r : Reducing c.args.levels.now c.args.items.now (picked c.args.items.now (slice_range c.walk.new.path part.start part.end)) = reduces _ _ c.requires.ordered _ s.1 s.2 _ c.walk.ensures _ _ c.find.ensures in
    record { inside = c.find.ensures.inside; known = c.walk.ensures.known; reducing = r; unkept = λ period p steps x k. excludes period p _ _ steps _ r x k }
