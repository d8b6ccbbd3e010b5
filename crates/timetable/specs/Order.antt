-- When one book asks more than another.
use Rattle.std.specs.Prelude.{◌≡◌, ℕ, ◌<◌, true, length, ◌≤ℤ◌}
use Rattle.std.specs.List.{Contains}
use Rattle.book.specs.Book.{Book, Row, Gap, is_frame, row}

-- the new row asks all that the old one does: a frame event stays one, and the window lies within
pub record RowTightens (old new : Row) : Type 0 where
  pub stays_frame : is_frame old.mark ≡ true → is_frame new.mark ≡ true
  pub not_before : old.earliest ≤ℤ new.earliest
  pub not_after : new.latest ≤ℤ old.latest

-- the new book asks all that the old one does: the same period and events, each row at least as much, and every old gap
pub record Tightens (old new : Book) : Type 0 where
  pub period : new.period ≡ old.period
  pub events : length new.rows ≡ length old.rows
  pub rows : (j : ℕ) → j < length old.rows → RowTightens (row old.rows j) (row new.rows j)
  pub gaps : (g : Gap) → Contains old.gaps g → Contains new.gaps g

-- the new book asks no more than the old one
abbrev pub Loosens : Book → Book → Type 0
Loosens old new = Tightens new old
