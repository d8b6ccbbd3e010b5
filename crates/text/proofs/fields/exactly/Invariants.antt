use Rattle.std.proofs.Common.{◌≡◌, ◌-◌, length, take}
use Rattle.std.specs.Iterator.{Yields}
use Rattle.text.proofs.fields.exactly.Given as goal

abbrev pub invariant-loop-place : goal.invariant-loop-place
invariant-loop-place g l = record {
  can : g.I.Iterator.can_next l.items;
  long : length l.place-items ≡ g.row.N;
  found : Yields g.I.Iterator.next_gives l.fn.items (take l.place-index l.place-items) l.items;
}

abbrev pub decreases-loop-place : goal.decreases-loop-place
decreases-loop-place g l = length l.place-items - l.place-index
