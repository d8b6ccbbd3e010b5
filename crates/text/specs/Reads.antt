-- What a reader has left, and what one step takes.
use Rattle.std.specs.Prelude.{◌≡◌, ℕ, ◌+◌, ◌<◌, ◌≤◌, List, [], ◌∷◌, length, drop, Option, MatchOption}
use Rattle.text.specs.declared.part.Part.{Part}
use Rattle.text.specs.declared.reader.Reader.{Reader}
use Rattle.text.specs.Lines.{Lacks, Cut, lines}

abbrev pub unread : Reader → List ℕ
unread r = drop r.cursor r.text.now

-- no line is ended any more, and nothing moved
pub record Ended (old new : Reader) : Type 0 where
  pub lacks : Lacks 10 (unread old)
  pub no_lines : lines (unread old) ≡ []
  pub same : new ≡ old

-- the next line is taken, and the cursor stands behind its end
pub record Stepped (old : Reader) (line rest : Part) (new : Reader) : Type 0 where
  pub cut : Cut 10 (unread old) line.bytes.now (unread new)
  pub lines_left : lines (unread old) ≡ line.bytes.now ∷ lines (unread new)
  pub line_at : line.at ≡ old.cursor
  pub rest_is : rest.bytes.now ≡ unread new
  pub rest_at : rest.at ≡ new.cursor
  pub text : new.text.now ≡ old.text.now
  pub cursor : new.cursor ≡ old.cursor + length line.bytes.now + 1
  pub number : new.line ≡ old.line + 1
  -- what lets a loop over the lines end
  pub grows : old.cursor < new.cursor
  pub within : new.cursor ≤ length old.text.now

-- what a step does: it takes the next line, or there is none
abbrev pub TakesLine : Reader → Option (Part × Part) → Reader → Type 0
TakesLine old r new = MatchOption r (Ended old new) (λ p. Stepped old p.0 p.1 new)
