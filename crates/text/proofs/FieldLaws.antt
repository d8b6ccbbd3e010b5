-- The laws of fields.
use Rattle.std.proofs.Common.{◌≡◌, ℕ, ◌+◌, ◌<◌, ap, ◌∙◌, List, [], ◌∷◌, ◌++◌, map, length, length-append, append-nil, Option, Some, refl, sym, subst, arith, eq-eqb, ne_eqb}
use Rattle.std.specs.Prelude.{MatchOption, None, ◌≢◌}
use Rattle.std.specs.Borrow.{Bor}
use Rattle.std.proofs.lemmas.List.{length-map}
use Rattle.std.specs.Iterator.{Yields, Drains, YieldsFirstRef}
use Rattle.text.specs.declared.fields.Fields.{Fields}
use Rattle.text.specs.Lines.{Lacks, Cut}
use Rattle.text.specs.Fields.{split, fields, fields_left, left_of, GivesOther}
use Rattle.text.proofs.LineLaws.{lacks_rest}

split_cut : (s : ℕ) (xs rest : List ℕ) → Lacks s xs → split s (xs ++ s ∷ rest) ≡ xs ∷ split s rest
split_cut s [] rest h = rw (eq-eqb s s refl)
split_cut s (x ∷ xs) rest h = rw (ne_eqb x s (h 0 x (omega arith)), split_cut s xs rest (lacks_rest s x xs h))

-- one field, and the last field
pub fields_step : (bs field rest : List ℕ) → Cut 44 bs field rest → fields bs ≡ field ∷ fields rest
fields_step bs field rest h = rw h.whole (split_cut 44 field rest h.lacks)

pub split_none : (s : ℕ) (xs : List ℕ) → Lacks s xs → split s xs ≡ xs ∷ []
split_none s [] h = refl
split_none s (x ∷ xs) h = rw (ne_eqb x s (h 0 x (omega arith)), split_none s xs (lacks_rest s x xs h))

-- one item more
pub Yields-more : {S A : Type 0} (steps : S → Option A → S → Type 0) (s : S) (xs : List A) (t : S) (x : A) (u : S) → Yields steps s xs t → steps t (Some x) u → Yields steps s (xs ++ (x ∷ [])) u
Yields-more steps s [] t x u h k = (u, subst (λ v. steps v (Some x) u) (sym h) k, refl)
Yields-more steps s (y ∷ xs) t x u h k = (h.0, h.1, Yields-more steps h.0 xs t x u h.2 k)

-- what comes and what is left then are the fields that were left
left_is : (f : Fields) (xs : List (Bor (List ℕ))) (t : Fields) → Yields (YieldsFirstRef left_of) f xs t → left_of f ≡ map (λ (x : Bor (List ℕ)). x.now) xs ++ left_of t
left_is f [] t h = ap left_of h
left_is f (x ∷ xs) t h = h.1 ∙ ap (λ ys. x.now ∷ ys) (left_is h.0 xs t h.2)

-- of the fields that are left, `exactly` answers all, in their order
pub just_fields : (f : Fields) (xs : List (Bor (List ℕ))) → Drains (YieldsFirstRef left_of) f xs → fields_left f.left ≡ map (λ (x : Bor (List ℕ)). x.now) xs
just_fields f xs (u, (t, took, step)) = left_is f xs t took ∙ (ap (λ ys. map (λ (x : Bor (List ℕ)). x.now) xs ++ ys) step.0 ∙ append-nil (map (λ (x : Bor (List ℕ)). x.now) xs))

-- and it answers none just where there are not so many
pub other_count : (f : Fields) (n : ℕ) → GivesOther (YieldsFirstRef left_of) f n → length (fields_left f.left) ≢ n
other_count f n (xs, r, u, (t, took, step), ends) same = by r step ends
  where
    long : length (left_of f) ≡ length xs + length (left_of t)
    long = ap length (left_is f xs t took) ∙ simp (length-append, length-map) refl

    by : (r : Option (Bor (List ℕ))) → YieldsFirstRef left_of t r u → MatchOption r (length xs < n) (λ _. length xs ≡ n) → ⊥
    by None step ends = omega (arith, long, ap length step.0)
    by (Some x) step ends = omega (arith, long, ap length step)
