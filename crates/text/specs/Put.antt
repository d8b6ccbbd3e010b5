-- What a print into a buffer answers and leaves.
use Rattle.std.specs.Prelude.{◌≡◌, ℕ, ◌+◌, ◌-◌, ◌^◌, ◌<◌, ◌≤◌, min, List, ◌++◌, length, take, drop}
use Rattle.text.specs.declared.put.Cursor.{Cursor}

-- out, with bs written over it at the place `at`
abbrev pub laid : List ℕ → ℕ → List ℕ → List ℕ
laid out at bs = take at out ++ (bs ++ drop (at + length bs) out)

-- bs are printed into `out` at the place `at`. The answer is the place behind them, or the greatest usize where
-- that is less, whether they fit or not; if they fit, they are there, and the rest of the buffer is as it was
pub record Prints (out : List ℕ) (at : ℕ) (bs : List ℕ) (r : ℕ) (after : List ℕ) : Type 0 where
  pub next : r ≡ min (at + length bs) (2 ^ 64 - 1)
  pub fits : at + length bs ≤ length out → after ≡ laid out at bs

-- the same, and where they do not fit, the whole buffer is as it was
pub record PrintsWhole (out : List ℕ) (at : ℕ) (bs : List ℕ) (r : ℕ) (after : List ℕ) : Type 0 where
  pub prints : Prints out at bs r after
  pub full : length out < at + length bs → after ≡ out

-- they are printed into a cursor's buffer at its place, which moves on, or leave it as it was; it is the same buffer
pub record PrintsAt (old : Cursor) (bs : List ℕ) (new : Cursor) : Type 0 where
  pub prints : PrintsWhole old.out.now old.at bs new.at new.out.now
  pub long : length new.out.now ≡ length old.out.now
  pub same : new.out.ghost_name ≡ old.out.ghost_name
