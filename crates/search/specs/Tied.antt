-- Gap count and framed keep the laws of a reading.
use Rattle.std.specs.Prelude.{◌≡◌, ℕ, ◌+◌, ◌≤◌, Bool, true, false, not, ◌&&◌, ◌||◌, nat_lt, refl}
use Rattle.std.proofs.Common.{sym, ap, arith}
use Rattle.std.proofs.lemmas.Bool.{ltb-true, ltb-false}
use Rattle.search.specs.Kinds.{Laws}
use Rattle.search.specs.Ties.{gaps, counted, FewGaps, framed, framing, EitherWay}

no_fewer : (x y : ℕ) → x ≤ y → nat_lt y x ≡ false
no_fewer x y h = grind arith

pub counted_laws : Laws counted FewGaps
counted_laws = record {
  same = λ v. no_fewer v.0 v.0 (omega arith);
  trans = λ u v w h k. no_fewer u.0 w.0 (omega (arith, ltb-false v.0 u.0 h, ltb-false w.0 v.0 k));
  antisym = λ u v h k. ap gaps (omega (arith, ltb-false v.0 u.0 h, ltb-false u.0 v.0 k));
  strict = λ u v h. no_fewer u.0 v.0 (omega (arith, ltb-true u.0 v.0 h));
  monotone = λ i u v h. no_fewer (u.0 + 1) (v.0 + 1) (omega (arith, ltb-false v.0 u.0 h));
  starts = omega arith;
  goes = λ k i v h l. omega arith;
}

one_way : (b : Bool) → (b && not b) ≡ false
one_way true = refl
one_way false = refl

after : (u v w : Bool) → (v && not u) ≡ false → (w && not v) ≡ false → (w && not u) ≡ false
after true v true h k = refl
after true v false h k = refl
after false true w h k = absurd (let z : ◌≡◌ {A = ℕ} 0 1 = cc in omega arith)
after false false true h k = absurd (let z : ◌≡◌ {A = ℕ} 0 1 = cc in omega arith)
after false false false h k = refl

alike : (u v : Bool) → (v && not u) ≡ false → (u && not v) ≡ false → u ≡ v
alike true true h k = refl
alike true false h k = k
alike false true h k = sym h
alike false false h k = refl

not_both : (u v : Bool) → (u && not v) ≡ true → (v && not u) ≡ false
not_both true true h = refl
not_both true false h = refl
not_both false true h = sym h
not_both false false h = refl

keeps : (b u v : Bool) → (v && not u) ≡ false → ((b || v) && not (b || u)) ≡ false
keeps true u v h = refl
keeps false u v h = h

pub framing_laws : Laws framing EitherWay
framing_laws = record {
  same = λ v. one_way v.0;
  trans = λ u v w h k. after u.0 v.0 w.0 h k;
  antisym = λ u v h k. ap framed (alike u.0 v.0 h k);
  strict = λ u v h. not_both u.0 v.0 h;
  monotone = λ i u v h. keeps i.framed u.0 v.0 h;
  starts = tt;
  goes = λ k i v h l. tt;
}
