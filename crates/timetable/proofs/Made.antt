-- An array that a closure makes, place by place.
use Rattle.std.proofs.Common.{◌≡◌, ℕ, zero, suc, ◌+◌, ◌<◌, ◌≤◌, List, length, get_or, take, sym, ◌∙◌, subst, inl, inr, arith}
use denote.Param.Members.{Mut, Called}
use Rattle.std.proofs.lemmas.Bool.{cases_eq, cases_lt}
use Rattle.std.proofs.lemmas.List.{ext_get_or, get_or_past, get_or-take, length-take-le}
use Rattle.std.specs.Array.{IsFromFnResultFrom, IsFromFnResult}

-- a call leaves the closure as it was, and makes what is good at its place
abbrev Makes : {F B : Type 0} → Mut F (ℕ × Unit {0}) B → F → (ℕ → B → Type 0) → Type 0
Makes {F} {B} g f Good = (i : ℕ) (y : B) (q : F) → Called g f (i, tt) y q → (q ≡ f) × Good i y

module _ {F B : Type 0} {g : Mut F (ℕ × Unit {0}) B} {f : F} where
  made_from : (Good : ℕ → B → Type 0) → Makes g f Good → (ys : List B) (i n : ℕ) → IsFromFnResultFrom g f ys i n → (j : ℕ) (d : B) → i ≤ j → j < i + n → Good j (get_or ys j d)
  made_from Good k ys i zero a j d l m = absurd (omega arith)
  made_from Good k ys i (suc n) (q, y, e, c, a) j d l m = elim (cases_eq j i) [
    | inl h ↦ subst (λ (p : ℕ). Good p (get_or ys p d)) (sym h) (subst (Good i) (sym (e.1 d)) (k i y q c).1)
    | inr h ↦ made_from Good k ys (i + 1) n (subst (λ (p : F). IsFromFnResultFrom g p ys (i + 1) n) (k i y q c).0 a) j d (omega arith) (omega arith)
  ]

  module _ {ys : List B} {n : ℕ} (made : IsFromFnResult g f ys n) (d : B) (m : ℕ) where
    -- the array begins with the list
    pub made_take : (all : List B) → length all ≡ m → m ≤ n → Makes g f (λ i y. i < m → y ≡ get_or all i d) → take m ys ≡ all
    made_take all e l k =
        let t = length-take-le m ys (omega (arith, made.long)) in
        ext_get_or d (take m ys) all (omega (arith, t)) (λ j b. (let s : j < m = omega (arith, t) in get_or-take m ys j d s ∙ made_from (λ i y. i < m → y ≡ get_or all i d) k ys 0 n made.each j d (omega arith) (omega arith) s))

    -- and has nothing from there on
    pub made_blank : Makes g f (λ i y. m ≤ i → y ≡ d) → (j : ℕ) → m ≤ j → get_or ys j d ≡ d
    made_blank k j l = elim (cases_lt j n) [
      | inl b ↦ made_from (λ i y. m ≤ i → y ≡ d) k ys 0 n made.each j d (omega arith) (omega arith) l
      | inr b ↦ get_or_past ys j d (omega (arith, made.long))
    ]
