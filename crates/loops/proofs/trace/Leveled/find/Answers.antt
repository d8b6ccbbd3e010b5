use Rattle.std.proofs.Common.{arith}
use Rattle.loops.proofs.Cuts.{path_closes}
use Rattle.loops.proofs.Scans.{found_at}
use Rattle.loops.proofs.trace.Leveled.find.Goals as goal

pub overflow_add-result : goal.overflow_add-result
overflow_add-result c =
    let f = found_at c.args.self.now.items.now c.args.path.now c.loop-start.start c.loop-start-test.true c.requires.falls.known c.in-Some.ensures in
    omega arith

pub returns-in-Some : goal.returns-in-Some
returns-in-Some c = found_at c.args.self.now.items.now c.args.path.now c.loop-start.start c.loop-start-test.true c.requires.falls.known c.in-Some.ensures

pub unreachable-requires : goal.unreachable-requires
unreachable-requires c =
    let t = path_closes _ _ c.args.self.now.ordered _ c.requires.falls c.requires.long in
    let l = c.loop-start-test.false in
    c.loop-start.invariant t.0 (omega (arith, t.1)) t.2
