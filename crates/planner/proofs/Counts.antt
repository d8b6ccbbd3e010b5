-- Counting the events that are reached.
use Rattle.std.proofs.Common.{◌≡◌, ℕ, ◌+◌, Bool, true, false, cond, List, [], ◌∷◌, map, length, drop, ℤ, sym, refl, ap, ◌∙◌, arith}
use Rattle.std.specs.List.{zip, filter}
use Rattle.book.specs.declared.row.Row.{Row as HeldRow}
use Rattle.book.specs.Book.{count}
use Rattle.book.specs.Held.{row_of}
use Rattle.planner.specs.Closing.{is_reached, all_reached}

-- whether the event of this row, with this time, is reached
abbrev pub reached : ℕ → HeldRow × ℤ → Bool
reached tick p = is_reached tick (row_of p.0) p.1

length-cond : {X : Type 0} (b : Bool) (x : X) (xs : List X) → length (cond b (x ∷ xs) xs) ≡ count b + length xs
length-cond true x xs = omega arith
length-cond false x xs = omega arith

all_reached-none : (tick : ℕ) (rows : List HeldRow) → all_reached tick (map row_of rows) [] ≡ 0
all_reached-none tick [] = refl
all_reached-none tick (r ∷ rs) = refl

pub length-filter-zip : (tick : ℕ) (rows : List HeldRow) (times : List ℤ) → length (filter (reached tick) (zip rows times)) ≡ all_reached tick (map row_of rows) times
length-filter-zip tick [] xs = refl
length-filter-zip tick (r ∷ rs) [] = refl
length-filter-zip tick (r ∷ rs) (x ∷ xs) = length-cond (reached tick (r, x)) (r, x) (filter (reached tick) (zip rs xs)) ∙ ap (λ (n : ℕ). count (reached tick (r, x)) + n) (length-filter-zip tick rs xs)

-- the same, the first of each left out
pub length-filter-behind : (tick : ℕ) (rows : List HeldRow) (times : List ℤ) → length (filter (reached tick) (drop 1 (zip rows times))) ≡ all_reached tick (drop 1 (map row_of rows)) (drop 1 times)
length-filter-behind tick [] xs = refl
length-filter-behind tick (r ∷ rs) [] = sym (all_reached-none tick rs)
length-filter-behind tick (r ∷ rs) (x ∷ xs) = length-filter-zip tick rs xs
