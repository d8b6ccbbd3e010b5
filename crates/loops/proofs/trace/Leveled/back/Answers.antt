use Rattle.std.proofs.Common.{arith}
use Rattle.loops.proofs.Scans.{events_at, scanned_more, scanned_hit}
use Rattle.loops.proofs.trace.Leveled.back.Goals as goal

pub bounds-self-first : goal.bounds-self-first
bounds-self-first c = (events_at _ c.args.path.now 0 _ c.requires.known c.requires.some c.args.self.now.ordered).0

pub bounds-self-item : goal.bounds-self-item
bounds-self-item c = (events_at _ c.args.path.now _ _ c.requires.known c.loop-place-test.true c.args.self.now.ordered).1

pub returns-then-item-first : goal.returns-then-item-first
returns-then-item-first c = let i = c.loop-place.invariant in scanned_hit _ c.args.path.now _ c.index-self-number.result c.requires.known c.loop-place-test.true i.starts i.scanned c.if-item-first.true

pub loop-place-preserved : goal.loop-place-preserved
loop-place-preserved c =
    let i = c.loop-place.invariant in
    let low = c.if-self-item.false in
    record { starts = i.starts; scanned = scanned_more _ c.args.path.now _ c.index-self-number.result c.requires.known c.loop-place-test.true i.starts i.scanned c.if-item-first.false (omega arith) }
