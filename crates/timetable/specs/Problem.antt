-- A problem in the book's terms.
use Rattle.std.specs.Prelude.{◌≡◌, ℕ, ◌+◌, ◌-◌, ◌*◌, Bool, true, ◌&&◌, List, map, length, ℤ}
use Rattle.search.specs.declared.item.Item.{Item as Searched}
use Rattle.book.specs.Book.{Book, Row, Gap, frames, frees, opens, all_join}
use Rattle.book.specs.Held.{row_of, gap_of, held}
use Rattle.timetable.specs.declared.problem.Problem.{Problem}
use Rattle.timetable.specs.Gathered.{Marked, Gathered}

abbrev pub rows_of : Problem → List Row
rows_of p = map row_of p.rows.now

abbrev pub gaps_of : Problem → List Gap
gaps_of p = map gap_of p.gaps.now

-- the book of this length with the problem's rows and gaps
abbrev pub book_of : Problem → ℤ → Book
book_of p h = held p.period.ticks h p.rows.now p.gaps.now

-- the opening is a frame event, and each gap begins and ends at an event that is there
abbrev pub stands : Problem → Bool
stands p = opens (rows_of p) && all_join (length p.rows.now) (gaps_of p)

-- its gaps, and the two window edges of every event but the opening
abbrev pub item_count : Problem → ℕ
item_count p = length p.gaps.now + 2 * (length p.rows.now - 1)

-- the bound of its book, of any length
abbrev pub bound_of : Problem → ℕ
bound_of p = frames (rows_of p) * (frees (rows_of p) + 1)

abbrev pub MarkedIn : Problem → Searched → Type 0
MarkedIn p = Marked p.period.ticks (rows_of p)

-- the searched items are those of the problem, if its gaps begin and end at events that are there
abbrev pub Gathers : Problem → List Searched → Type 0
Gathers p xs = all_join (length p.rows.now) (gaps_of p) ≡ true → Gathered p.period.ticks (rows_of p) (gaps_of p) xs
