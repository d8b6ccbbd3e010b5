-- A list of events that begins with one of the top level, and in which none comes again before one of a higher level,
-- has at most `room` places. Read from its end, such a list drives a counter in mixed bases: digit k is how many events
-- of level k come before any of a higher level.
use Rattle.std.proofs.Common.{◌≡◌, ℕ, suc, ◌*◌, ◌<◌, ◌≤◌, Bool, true, false, cond, ◌&&◌, eqb, leb, ◌⊎◌, List, [], ◌∷◌, length, get_or, inl, inr, mul-le-mul_right, arith}
use Rattle.std.specs.List.{All}
use Rattle.std.proofs.lemmas.List.Elements.{All-tail}
use Rattle.std.proofs.lemmas.Bool.{cases_Bool, eqb-true, leb-true, and_parts}
use Rattle.loops.specs.Levels.{level, ranked, product, room}
use Rattle.loops.proofs.Counts.{count, count_same, count_none, count_le, count_more, ranked_is, product_same, value, value_none, value_more, Counted}

-- x comes in the list, and nothing of a higher level before it
abbrev pub Again : (ℕ → ℕ) → ℕ → List ℕ → Type 0
Again rank x [] = ⊥
Again rank x (y ∷ ys) = (x ≡ y) ⊎ ((rank y ≤ rank x) × Again rank x ys)

-- some event comes again, with nothing of a higher level between
abbrev pub Crowded : (ℕ → ℕ) → List ℕ → Type 0
Crowded rank [] = ⊥
Crowded rank (x ∷ xs) = Again rank x xs ⊎ Crowded rank xs

-- the test of `Again`
abbrev again : (ℕ → ℕ) → ℕ → List ℕ → Bool
again rank x [] = false
again rank x (y ∷ ys) = cond (eqb x y) true (cond (leb (rank y) (rank x)) (again rank x ys) false)

abbrev Apart : (ℕ → ℕ) → List ℕ → Type 0
Apart rank [] = Unit {0}
Apart rank (x ∷ xs) = (again rank x xs ≡ false) × Apart rank xs

module _ (rank : ℕ → ℕ) where
  is_again : (x : ℕ) (xs : List ℕ) → again rank x xs ≡ true → Again rank x xs
  is_again x [] h = cc
  is_again x (y ∷ ys) h = elim (cases_Bool (eqb x y)) [ inl e ↦ inl (eqb-true x y e) | inr e ↦ inr (part e (is_again x ys)) ]
    where
      part : eqb x y ≡ false → (again rank x ys ≡ true → Again rank x ys) → (rank y ≤ rank x) × Again rank x ys
      part e more = let f : leb (rank y) (rank x) ≡ true = grind arith in (leb-true (rank y) (rank x) f, more (grind arith))

  told : (xs : List ℕ) → Apart rank xs ⊎ Crowded rank xs
  told [] = inl tt
  told (x ∷ xs) = elim (told xs) [ inr b ↦ inr (inr b) | inl g ↦ elim (cases_Bool (again rank x xs)) [ inl e ↦ inr (inl (is_again x xs e)) | inr e ↦ inl (e, g) ] ]

abbrev shown : (ℕ → ℕ) → List ℕ → ℕ → ℕ → Bool
shown rank xs k v = eqb (rank v) k && again rank v xs

module _ (rank : ℕ → ℕ) (n : ℕ) where
  abbrev most : ℕ → ℕ
  most k = count (λ v. eqb (rank v) k) n

  abbrev digit : List ℕ → ℕ → ℕ
  digit xs k = count (shown rank xs k) n

  digit_le : (xs : List ℕ) (k : ℕ) → digit xs k ≤ most k
  digit_le xs k = count_le (shown rank xs k) (λ v. eqb (rank v) k) n (λ v _ h. (and_parts (eqb (rank v) k) (again rank v xs) h).0)

  digit_more : (x : ℕ) (xs : List ℕ) → x < n → again rank x xs ≡ false → Counted (digit xs) (digit (x ∷ xs)) (rank x)
  digit_more x xs l g = record {
    up_one = count_more (shown rank xs (rank x)) (shown rank (x ∷ xs) (rank x)) x n l (grind arith) (grind arith) (λ v _ d. grind arith);
    cleared = λ j h. count_none (shown rank (x ∷ xs) j) n (λ v _. grind arith);
    stays = λ j h. count_same (shown rank (x ∷ xs) j) (shown rank xs j) n (λ v _. grind arith);
  }

  abbrev Inside : ℕ → ℕ → Type 0
  Inside top v = (v < n) × (rank v ≤ top)

  counted : (top : ℕ) (xs : List ℕ) → Apart rank xs → All (Inside top) xs → length xs ≤ value most (digit xs) (suc top)
  counted top [] g a = omega arith
  counted top (x ∷ xs) g a =
      let h : Inside top x = a 0 x (omega arith) in
      let ih : length xs ≤ value most (digit xs) (suc top) = counted top xs g.1 (All-tail (Inside top) x xs a) in
      omega (arith, value_more most (digit xs) (digit (x ∷ xs)) (rank x) (digit_le xs) (digit_more x xs h.0 g.0) (suc top) (omega arith))

  bounded : (top x : ℕ) (xs : List ℕ) → rank x ≡ top → Apart rank (x ∷ xs) → All (Inside top) (x ∷ xs) → length (x ∷ xs) ≤ most top * product most top
  bounded top x xs e g a =
      let none : value most (digit (x ∷ xs)) top ≡ 0 = value_none most (digit (x ∷ xs)) top (λ j h. (digit_more x xs (a 0 x (omega arith)).0 g.0).cleared j (omega arith)) in
      omega (arith, counted top (x ∷ xs) g a, mul-le-mul_right (product most top) (digit_le (x ∷ xs) top))

-- more places than there is room for
pub crowded : (levels : List ℕ) → ((v : ℕ) → level levels v ≤ level levels 0) → (x : ℕ) (xs : List ℕ) → level levels x ≡ level levels 0 → All (λ v. v < length levels) (x ∷ xs) →
    room levels < length (x ∷ xs) → Crowded (level levels) (x ∷ xs)
crowded levels top x xs e a l = elim (told (level levels) (x ∷ xs)) [ inr b ↦ b | inl g ↦ absurd (contra g) ]
  where
    contra : Apart (level levels) (x ∷ xs) → ⊥
    contra g =
        let b = bounded (level levels) (length levels) (level levels 0) x xs e g (λ k d h. (a k d h, top (get_or (x ∷ xs) k d))) in
        let m = most (level levels) (length levels) in
        let p : m (level levels 0) ≡ ranked levels (level levels 0) = ranked_is levels (level levels 0) in
        let q : product m (level levels 0) ≡ product (ranked levels) (level levels 0) = product_same m (ranked levels) (ranked_is levels) (level levels 0) in
        let r : m (level levels 0) * product m (level levels 0) ≡ room levels = cc in
        omega arith
