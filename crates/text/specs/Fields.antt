-- The fields of a line: commas part them, and nothing is quoted.
use Rattle.std.specs.Prelude.{ℕ, ◌<◌, ◌≡◌, cond, List, [], ◌∷◌, length, MatchOption, Some, None, Option, ◌==◌}
use Rattle.std.specs.Borrow.{Bor}
use Rattle.std.specs.Iterator.{YieldsThen}
use Rattle.text.specs.declared.fields.Fields.{Fields}

-- b stands before the first piece
abbrev pub onto : ℕ → List (List ℕ) → List (List ℕ)
onto b [] = (b ∷ []) ∷ []
onto b (x ∷ xs) = (b ∷ x) ∷ xs

-- the pieces that the bytes s part: one more than there are such bytes
abbrev pub split : ℕ → List ℕ → List (List ℕ)
split s [] = [] ∷ []
split s (b ∷ bs) = cond (b == s) ([] ∷ split s bs) (onto b (split s bs))

abbrev pub fields : List ℕ → List (List ℕ)
fields bs = split 44 bs

-- the fields of what is left of a line: none, unless a comma stood before it
abbrev pub fields_left : Option (Bor (List ℕ)) → List (List ℕ)
fields_left None = []
fields_left (Some r) = fields r.now

-- what an iterator over fields has left
abbrev pub left_of : Fields → List (List ℕ)
left_of f = fields_left f.left

-- fewer or more items than n come
abbrev pub GivesOther : {S A : Type 0} → (S → Option A → S → Type 0) → S → ℕ → Type 0
GivesOther {S} {A} steps s n = (xs : List A) × (r : Option A) × (u : S) × YieldsThen steps s xs r u × MatchOption r (length xs < n) (λ _. length xs ≡ n)
