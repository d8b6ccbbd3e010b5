-- The facts of the step down, and what follows from them alone.
use Rattle.std.specs.Prelude.{◌≡◌, ℕ, ◌+◌, ◌*◌, ◌/◌, ◌<◌, ◌≤◌, ℤ, pos, negsuc, ◌+ℤ◌, ◌*ℤ◌, ◌≤ℤ◌, ◌<ℤ◌}
use Rattle.std.proofs.Common.{sym, ap, subst, ◌∙◌, arith, div-add-mod', mod-lt, add-mul, mul-le-mul_right}
use borrow.Author.Differences.{up, down, sum_is_lem}
use Rattle.std.specs.Int.{int_rem_euclid, int_div_euclid}
use Rattle.std.proofs.lemmas.Int.{ints, by_lt_z}
use Rattle.search.specs.Floor.{floor, GreatestMultiple, FloorFacts}

module _ (p : ℕ) (h : 0 < p) where
  abbrev P : ℤ
  P = pos p

  -- a remainder is in 0..p
  rem_bounds : (x : ℤ) → (pos 0 ≤ℤ int_rem_euclid x P) × (int_rem_euclid x P <ℤ P)
  rem_bounds (pos a) = let m = mod-lt a h in omega (arith, ints)
  rem_bounds (negsuc a) = let m = mod-lt a h in omega (arith, ints)

  -- the step down is the quotient times p
  floor_is : (x : ℤ) → floor P x ≡ int_div_euclid x P *ℤ P
  floor_is (pos a) = omega (arith, ints, div-add-mod' a p)
  floor_is (negsuc a) = omega (arith, ints, div-add-mod' a p, mod-lt a h, add-mul 1 (a / p) p)

  -- two multiples are equal or at least p apart
  apart : (m k : ℤ) → m <ℤ k → (m *ℤ P +ℤ P) ≤ℤ (k *ℤ P)
  apart m k l =
      let e : up m + down k + 1 ≤ up k + down m = omega (arith, ints) in
      omega (arith, ints, mul-le-mul_right p e, add-mul (up m + down k) 1 p, add-mul (up m) (down k) p, add-mul (up k) (down m) p)

  not_above : (x : ℤ) → floor P x ≤ℤ x
  not_above x = let b = rem_bounds x in omega (arith, ints)

  within : (x : ℤ) → x <ℤ (floor P x +ℤ P)
  within x = let b = rem_bounds x in omega (arith, ints)

  -- no other multiple is as near below x
  unique : (x k : ℤ) → (k *ℤ P) ≤ℤ x → x <ℤ (k *ℤ P +ℤ P) → floor P x ≡ k *ℤ P
  unique x k low high =
      let d = int_div_euclid x P in
      let e = floor_is x in
      let b = not_above x in
      let n = within x in
      e ∙ by_lt_z d k (λ l. let a = apart d k l in absurd (omega (arith, ints))) (λ ge. by_lt_z k d (λ l. let a = apart k d l in absurd (omega (arith, ints))) (λ le. let s : d ≡ k = omega (arith, ints) in ap (λ (z : ℤ). z *ℤ P) s))

  ordered : (x y : ℤ) → x ≤ℤ y → floor P x ≤ℤ floor P y
  ordered x y l =
      let d = int_div_euclid x P in
      let f = int_div_euclid y P in
      let dx = floor_is x in
      let fy = floor_is y in
      let b = not_above x in
      let n = within y in
      by_lt_z f d (λ k. let a = apart f d k in omega (arith, ints))
      (λ ge. by_lt_z d f (λ k. let a = apart d f k in omega (arith, ints)) (λ le. let s : d ≡ f = omega (arith, ints) in let t = ap (λ (z : ℤ). z *ℤ P) s in omega (arith, ints)))

  add_mulℤ : (m k : ℤ) → (m +ℤ k) *ℤ P ≡ m *ℤ P +ℤ k *ℤ P
  add_mulℤ m k =
      let s = ap (λ (n : ℕ). n * p) (sum_is_lem m k) in
      let u = up (m +ℤ k) in
      let d = down (m +ℤ k) in
      omega (arith, ints, s, add-mul (u + down m) (down k) p, add-mul u (down m) p, add-mul (d + up m) (up k) p, add-mul d (up m) p)

  along : (x k : ℤ) → floor P (x +ℤ k *ℤ P) ≡ floor P x +ℤ k *ℤ P
  along x k =
      let d = int_div_euclid x P in
      let e = floor_is x in
      let s = add_mulℤ d k in
      let b = not_above x in
      let n = within x in
      unique (x +ℤ k *ℤ P) (d +ℤ k) (omega (arith, ints)) (omega (arith, ints)) ∙ s ∙ ap (λ (z : ℤ). z +ℤ k *ℤ P) (sym e)

  positive_facts : FloorFacts P
  positive_facts = record {
    lands = λ x. (int_div_euclid x P, floor_is x);
    leaves = λ x m. unique x m.0 (let e = m.1 in omega (arith, ints)) (let e = m.1 in omega (arith, ints)) ∙ sym m.1;
    keeps_order = ordered;
    never_raises = not_above;
    moves_along = λ x k. along x k;
  }

pub floor_facts : (p : ℤ) → pos 1 ≤ℤ p → FloorFacts p
floor_facts (pos n) h = positive_facts n (omega (arith, ints))
floor_facts (negsuc n) h = absurd (omega (arith, ints))

-- from the facts alone
module _ (p : ℤ) (f : FloorFacts p) where
  pub floor_greatest : (x : ℤ) → GreatestMultiple p x (floor p x)
  floor_greatest x = record {
    on = f.lands x;
    below = f.never_raises x;
    greatest = λ z m l. subst (λ (y : ℤ). y ≤ℤ floor p x) (f.leaves z m) (f.keeps_order z x l);
  }

  -- the sum loses less than a period
  pub floor_near : pos 1 ≤ℤ p → (x : ℤ) → x <ℤ (floor p x +ℤ p)
  floor_near h x =
      by_lt_z x (floor p x +ℤ p) (λ l. l)
      (λ ge.
      let one : pos 1 *ℤ p ≡ p = omega (arith, ints) in
      let m : floor p (floor p x +ℤ p) ≡ floor p x +ℤ p = ap (λ (z : ℤ). floor p (floor p x +ℤ z)) (sym one) ∙ (f.moves_along (floor p x) (pos 1) ∙ (ap (λ (z : ℤ). floor p (floor p x) +ℤ z) one ∙ ap (λ (z : ℤ). z +ℤ p) (f.leaves (floor p x) (f.lands x)))) in
      let o : (floor p x +ℤ p) ≤ℤ floor p x = subst (λ (z : ℤ). z ≤ℤ floor p x) m (f.keeps_order (floor p x +ℤ p) x ge) in
      absurd (omega (arith, ints)))
