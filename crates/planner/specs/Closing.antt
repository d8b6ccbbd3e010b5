-- What closing a scan answers.
use Rattle.std.specs.Prelude.{◌≡◌, ℕ, ◌+◌, Bool, ◌&&◌, List, [], ◌∷◌, drop, ℤ, pos, int_le}
use Rattle.book.specs.Book.{Row, is_frame, count, frames}

-- the event is a frame event, and its time is at most the tick
abbrev pub is_reached : ℕ → Row → ℤ → Bool
is_reached tick r x = is_frame r.mark && int_le x (pos tick)

-- how many events with these times are reached
abbrev pub all_reached : ℕ → List Row → List ℤ → ℕ
all_reached tick [] xs = 0
all_reached tick (r ∷ rs) [] = 0
all_reached tick (r ∷ rs) (x ∷ xs) = count (is_reached tick r x) + all_reached tick rs xs

-- of the frame events other than the opening, how many there are and how many are reached
pub record Counted (tick : ℕ) (rows : List Row) (times : List ℤ) (planned reached : ℕ) : Type 0 where
  pub planned_are : planned ≡ frames (drop 1 rows)
  pub reached_are : reached ≡ all_reached tick (drop 1 rows) (drop 1 times)
