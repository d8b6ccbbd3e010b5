-- What a print into the caller's buffer leaves.
use Rattle.std.specs.Prelude.{◌≡◌, ℕ, ◌≤◌, List, length, MatchResult, Result}

-- the answer is a length within the buffer, or a refusal that leaves the buffer as it was
abbrev pub FitsOrStays : {E : Type 0} → List ℕ → Result ℕ E → List ℕ → Type 0
FitsOrStays old r new = MatchResult r (λ n. n ≤ length old) (λ _. new ≡ old)
