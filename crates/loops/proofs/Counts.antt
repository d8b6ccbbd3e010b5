-- Counts of the numbers below n that pass a test, and numbers in mixed bases.
use Rattle.std.proofs.Common.{◌≡◌, ℕ, zero, suc, ◌+◌, ◌*◌, ◌<◌, ◌≤◌, Bool, true, false, cond, eqb, List, [], ◌∷◌, length, sym, refl, ◌∙◌, inl, inr, mul-le-mul_right, arith}
use Rattle.std.proofs.lemmas.Bool.{cases_eq}
use Rattle.loops.specs.Levels.{level, ranked, product}

abbrev pub count : (ℕ → Bool) → ℕ → ℕ
count p zero = 0
count p (suc n) = count p n + cond (p n) 1 0

pub count_none : (p : ℕ → Bool) (n : ℕ) → ((v : ℕ) → v < n → p v ≡ false) → count p n ≡ 0
count_none p zero h = refl
count_none p (suc n) h =
    let e : p n ≡ false = h n (omega arith) in
    let ih : count p n ≡ 0 = count_none p n (λ v l. h v (omega arith)) in
    rw (ih, e) refl

pub count_le : (p q : ℕ → Bool) (n : ℕ) → ((v : ℕ) → v < n → p v ≡ true → q v ≡ true) → count p n ≤ count q n
count_le p q zero h = omega arith
count_le p q (suc n) h =
    let ih : count p n ≤ count q n = count_le p q n (λ v l. h v (omega arith)) in
    let k : p n ≡ true → q n ≡ true = h n (omega arith) in
    grind arith

pub count_same : (p q : ℕ → Bool) (n : ℕ) → ((v : ℕ) → v < n → p v ≡ q v) → count p n ≡ count q n
count_same p q n h = omega (arith, count_le p q n (λ v l e. sym (h v l) ∙ e), count_le q p n (λ v l e. h v l ∙ e))

-- q is p but for one number more
pub count_more : (p q : ℕ → Bool) (x n : ℕ) → x < n → p x ≡ false → q x ≡ true → ((v : ℕ) → v < n → (v ≡ x → ⊥) → p v ≡ q v) → count q n ≡ count p n + 1
count_more p q x zero l e f h = omega arith
count_more p q x (suc n) l e f h = elim (cases_eq n x) [ inl s ↦ last s | inr d ↦ earlier d (count_more p q x n (omega arith) e f (λ v k. h v (omega arith))) ]
  where
    last : n ≡ x → count q (suc n) ≡ count p (suc n) + 1
    last s =
        let a : p n ≡ false = rw s e in
        let b : q n ≡ true = rw s f in
        let c : count p n ≡ count q n = count_same p q n (λ v k. h v (omega arith) (omega arith)) in
        rw (a, b, c) (omega arith)

    earlier : (n ≡ x → ⊥) → count q n ≡ count p n + 1 → count q (suc n) ≡ count p (suc n) + 1
    earlier d ih =
        let a : p n ≡ q n = h n (omega arith) d in
        rw (ih, a) (omega arith)

-- ---- the levels of a list

count_front : (p : ℕ → Bool) (n : ℕ) → count p (suc n) ≡ cond (p 0) 1 0 + count (λ v. p (suc v)) n
count_front p zero = omega arith
count_front p (suc n) = let ih = count_front p n in omega arith

pub ranked_is : (levels : List ℕ) (k : ℕ) → count (λ v. eqb (level levels v) k) (length levels) ≡ ranked levels k
ranked_is [] k = refl
ranked_is (l ∷ ls) k = let f = count_front (λ v. eqb (level (l ∷ ls) v) k) (length ls) in let ih = ranked_is ls k in omega arith

pub product_same : (c d : ℕ → ℕ) → ((j : ℕ) → c j ≡ d j) → (k : ℕ) → product c k ≡ product d k
product_same c d h zero = refl
product_same c d h (suc k) = let e = h k in let ih = product_same c d h k in cc

-- ---- mixed bases

-- digit k, at most c k, stands for d k * product c k
abbrev pub value : (ℕ → ℕ) → (ℕ → ℕ) → ℕ → ℕ
value c d zero = 0
value c d (suc k) = value c d k + d k * product c k

pub value_below : (c d : ℕ → ℕ) (k : ℕ) → ((j : ℕ) → d j ≤ c j) → value c d k < product c k
value_below c d zero h = omega arith
value_below c d (suc k) h = omega (arith, value_below c d k h, mul-le-mul_right (product c k) (h k))

pub value_none : (c d : ℕ → ℕ) (k : ℕ) → ((j : ℕ) → j < k → d j ≡ 0) → value c d k ≡ 0
value_none c d zero h = refl
value_none c d (suc k) h =
    let e : d k ≡ 0 = h k (omega arith) in
    let ih : value c d k ≡ 0 = value_none c d k (λ j l. h j (omega arith)) in
    rw (ih, e) (omega arith)

-- digit k goes up by one, those below go to 0, those above stay
pub record Counted (d d' : ℕ → ℕ) (k : ℕ) : Type 0 where
  pub up_one : d' k ≡ d k + 1
  pub cleared : (j : ℕ) → j < k → d' j ≡ 0
  pub stays : (j : ℕ) → k < j → d' j ≡ d j

pub value_more : (c d d' : ℕ → ℕ) (k : ℕ) → ((j : ℕ) → d j ≤ c j) → Counted d d' k → (m : ℕ) → k < m → value c d m < value c d' m
value_more c d d' k h s zero l = omega arith
value_more c d d' k h s (suc m) l = elim (cases_eq k m) [ inl e ↦ here e | inr e ↦ above e (value_more c d d' k h s m (omega arith)) ]
  where
    here : k ≡ m → value c d (suc m) < value c d' (suc m)
    here e =
        let u : d' m ≡ d m + 1 = rw (← e) s.up_one in
        rw u (omega (arith, value_below c d m h))

    above : (k ≡ m → ⊥) → value c d m < value c d' m → value c d (suc m) < value c d' (suc m)
    above e ih =
        let u : d' m ≡ d m = s.stays m (omega arith) in
        rw u (omega arith)
