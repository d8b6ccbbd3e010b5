-- The lines of a text: each is ended by a byte 10.
use Rattle.std.specs.Prelude.{◌≡◌, ℕ, cond, List, [], ◌∷◌, ◌++◌, ◌==◌, ◌≢◌}
use Rattle.std.specs.List.{All}

-- no byte of bs is s
abbrev pub Lacks : ℕ → List ℕ → Type 0
Lacks s bs = All (λ b. b ≢ s) bs

-- the text is the front, the first byte s, and the rest
pub record Cut (s : ℕ) (text front rest : List ℕ) : Type 0 where
  pub whole : text ≡ front ++ (s ∷ rest)
  pub lacks : Lacks s front

-- b stands before the first line, if a line is ended
abbrev pub ahead : ℕ → List (List ℕ) → List (List ℕ)
ahead b [] = []
ahead b (x ∷ xs) = (b ∷ x) ∷ xs

-- the lines, each without its end; what stands behind the last byte 10 is none
abbrev pub lines : List ℕ → List (List ℕ)
lines [] = []
lines (b ∷ bs) = cond (b == 10) ([] ∷ lines bs) (ahead b (lines bs))
