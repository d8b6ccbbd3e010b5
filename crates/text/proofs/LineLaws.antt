-- The laws of cuts and lines.
use Rattle.std.proofs.Common.{◌≡◌, ◌≢◌, ℕ, ◌+◌, ◌<◌, List, [], ◌∷◌, ◌++◌, length, get_or, take, drop, sym, refl, ap, ◌∙◌, ne_eqb, arith}
use Rattle.std.proofs.lemmas.List.{take-append-drop, drop_more}
use Rattle.std.proofs.lemmas.List.Elements.{All-tail}
use Rattle.std.specs.Prelude.{All}
use Rattle.text.specs.Lines.{Lacks, Cut, lines}

-- what a search found, as a cut
pub cut_at : (s : ℕ) (bs : List ℕ) (n : ℕ) → n < length bs → All (λ b. b ≢ s) (take n bs) → get_or bs n 0 ≡ s → Cut s bs (take n bs) (drop (n + 1) bs)
cut_at s bs n l h e = record {
  whole = sym (take-append-drop n bs) ∙ ap (λ r. take n bs ++ r) (drop_more bs n 0 l ∙ ap (λ b. b ∷ drop (n + 1) bs) e);
  lacks = h;
}

-- the bytes after the first
pub lacks_rest : (s x : ℕ) (xs : List ℕ) → Lacks s (x ∷ xs) → Lacks s xs
lacks_rest s x xs h = All-tail (λ b. b ≢ s) x xs h

-- one line, and no line
lines_cut : (xs rest : List ℕ) → Lacks 10 xs → lines (xs ++ 10 ∷ rest) ≡ xs ∷ lines rest
lines_cut [] rest h = refl
lines_cut (x ∷ xs) rest h = rw (ne_eqb x 10 (h 0 x (omega arith)), lines_cut xs rest (lacks_rest 10 x xs h))

pub lines_step : (bs line rest : List ℕ) → Cut 10 bs line rest → lines bs ≡ line ∷ lines rest
lines_step bs line rest h = rw h.whole (lines_cut line rest h.lacks)

pub lines_none : (xs : List ℕ) → Lacks 10 xs → lines xs ≡ []
lines_none [] h = refl
lines_none (x ∷ xs) h = rw (ne_eqb x 10 (h 0 x (omega arith)), lines_none xs (lacks_rest 10 x xs h))
