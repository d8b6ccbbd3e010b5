-- What a plan holds: its book, and the times of its events by number.
use Rattle.std.specs.Prelude.{◌≡◌, List, length, take, replicate, ℤ, pos}
use Rattle.book.specs.Limits.{most_events}
use Rattle.book.specs.Book.{Book}
use Rattle.book.specs.Held.{book_of}
use Rattle.timetable.specs.declared.found.Found.{Found}
use Rattle.planner.specs.declared.plan.Plan.{Plan}

abbrev pub plan_book : Plan → Book
plan_book p = book_of p.table

abbrev pub plan_times : Plan → List ℤ
plan_times p = take (length (plan_book p).rows) p.found.times

-- the timetable of the opening alone: depth 0, and 0 as each time
abbrev pub IsAlone : Found → Type 0
IsAlone f = (f.depth ≡ 0) × (f.times ≡ replicate most_events (pos 0))
