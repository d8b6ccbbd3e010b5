use Rattle.std.proofs.Common.{◌≡◌}
use Rattle.loops.specs.Loops.{picked}
use Rattle.loops.specs.Walks.{Scanned, start_of}
use Rattle.loops.proofs.trace.Leveled.back.Given as goal

abbrev pub invariant-loop-place : goal.invariant-loop-place
invariant-loop-place l =
    let x = start_of (picked l.self.items.now l.path) in
    record { starts : x ≡ l.first.from; scanned : Scanned l.self.levels.now l.self.items.now l.path x l.place }
