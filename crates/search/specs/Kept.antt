-- Carried time keeps the laws of a reading.
use Rattle.std.specs.Prelude.{◌≡◌, ◌+◌, Bool, true, false, cond, ℤ, ◌+ℤ◌, ◌≤ℤ◌, int_lt}
use Rattle.std.proofs.Common.{ap, arith}
use Rattle.std.proofs.lemmas.Int.{ints}
use Rattle.std.proofs.lemmas.Bool.{cond_both}
use Rattle.search.specs.declared.item.Item.{Item}
use Rattle.search.specs.Floor.{floor, FloorFacts}
use Rattle.search.specs.Kinds.{Laws}
use Rattle.search.specs.Carried.{time, carry, carried, InRange}
use Rattle.search.specs.Floors.{floor_facts, floor_near}

facts_of : (i : Item) → FloorFacts i.period.ticks
facts_of i = floor_facts i.period.ticks i.period.positive

-- of two times the later one stays so
in_order : (i : Item) (x y : ℤ) → x ≤ℤ y → (b : Bool) → cond b (floor i.period.ticks (x +ℤ i.weight)) (x +ℤ i.weight) ≤ℤ cond b (floor i.period.ticks (y +ℤ i.weight)) (y +ℤ i.weight)
in_order i x y h true = (facts_of i).keeps_order (x +ℤ i.weight) (y +ℤ i.weight) (omega (arith, ints))
in_order i x y h false = omega (arith, ints)

no_before : (x y : ℤ) → x ≤ℤ y → int_lt y x ≡ false
no_before x y h = grind (arith, ints)

at_most : (x y : ℤ) → int_lt y x ≡ false → x ≤ℤ y
at_most x y h = omega (arith, ints)

pub carried_laws : Laws carried InRange
carried_laws = record {
  same = λ v. no_before v.0 v.0 (omega (arith, ints));
  trans = λ u v w h k. no_before u.0 w.0 (omega (arith, ints, at_most u.0 v.0 h, at_most v.0 w.0 k));
  antisym = λ u v h k. ap time (omega (arith, ints, at_most u.0 v.0 h, at_most v.0 u.0 k));
  strict = λ u v h. no_before u.0 v.0 (omega (arith, ints));
  monotone = λ i u v h. no_before (carry i u.0) (carry i v.0) (in_order i u.0 v.0 (at_most u.0 v.0 h) i.framed);
  starts = (omega (arith, ints), omega (arith, ints));
  goes = λ k i v h l.
      let p = i.period.ticks in
      let b = (facts_of i).never_raises (v.0 +ℤ i.weight) in
      let n = floor_near p (facts_of i) i.period.positive (v.0 +ℤ i.weight) in
      let s = i.period.short in
      let lo = i.low in
      let hi = i.high in
      cond_both i.framed (floor p (v.0 +ℤ i.weight)) (v.0 +ℤ i.weight) (λ z. InRange (k + 1) (time z)) (λ _. (omega (arith, ints), omega (arith, ints))) (λ _. (omega (arith, ints), omega (arith, ints)));
}
