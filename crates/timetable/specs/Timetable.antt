-- What a timetable of a book is, and which of them is the latest.
use Rattle.std.specs.Prelude.{◌≡◌, ℕ, ◌<◌, true, List, length, ℤ, pos, ◌-ℤ◌, ◌≤ℤ◌, slice_index_or}
use Rattle.std.specs.List.{All}
use Rattle.search.specs.Floor.{Multiple}
use Rattle.book.specs.Book.{Book, Gap, row, framed}

-- the time of event j
abbrev pub at : List ℤ → ℕ → ℤ
at x j = slice_index_or x j (pos 0)

-- a time for each event: the opening at 0, frame events on multiples of the period, every event but the opening within
-- its window, and every gap kept
pub record Timetable (b : Book) (x : List ℤ) : Type 0 where
  pub every_event : length x ≡ length b.rows
  pub opens : at x 0 ≡ pos 0
  pub on_clock : (j : ℕ) → j < length b.rows → framed b.rows j ≡ true → Multiple b.period (at x j)
  pub not_before : (j : ℕ) → 0 < j → j < length b.rows → (row b.rows j).earliest ≤ℤ at x j
  pub not_after : (j : ℕ) → 0 < j → j < length b.rows → at x j ≤ℤ (row b.rows j).latest
  pub gaps_kept : All (λ (g : Gap). (at x g.to -ℤ at x g.from) ≤ℤ g.width) b.gaps

-- the book has a timetable
abbrev pub Feasible : Book → Type 0
Feasible b = (x : List ℤ) × Timetable b x

-- no event is later in x than in y
abbrev pub NoLater : List ℤ → List ℤ → Type 0
NoLater x y = (j : ℕ) → j < length x → at x j ≤ℤ at y j

-- the timetable of the book that puts every event as late as any does
pub record Latest (b : Book) (x : List ℤ) : Type 0 where
  pub table : Timetable b x
  pub greatest : (y : List ℤ) → Timetable b y → NoLater y x
