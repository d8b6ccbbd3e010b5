-- What the solver answers of a book.
use Rattle.std.specs.Prelude.{◌≡◌, ℕ, ◌<◌, ◌≤◌, List, length, take, ℤ, pos, Ok, Err, Result}
use Rattle.book.specs.Book.{Book}
use Rattle.timetable.specs.declared.found.Found.{Found}
use Rattle.timetable.specs.declared.found.Loop.{Loop}
use Rattle.timetable.specs.Records.{codes_of}
use Rattle.timetable.specs.Timetable.{at, Feasible, NoLater, Latest}
use Rattle.timetable.specs.Chains.{LeastReading, Depth, bound, ReducingLoop}
use Rattle.timetable.specs.Order.{Tightens, Loosens}

-- there is a timetable: the times are the latest one, and each is the least reading over all chains
pub record Solved (b : Book) (depth : ℕ) (times : List ℤ) : Type 0 where
  pub latest : Latest b (take (length b.rows) times)
  pub least : (j : ℕ) → j < length b.rows → LeastReading b j (at times j)
  pub rest : (j : ℕ) → length b.rows ≤ j → at times j ≡ pos 0
  pub deep : Depth b depth
  pub bounded : depth < bound b
  -- no event is later than in the latest timetable of a book that this one tightens, and none is earlier than in that of
  -- a book that it loosens
  pub no_later : (old : Book) (x : List ℤ) → Tightens old b → Latest old x → NoLater (take (length b.rows) times) x
  pub no_earlier : (old : Book) (x : List ℤ) → Loosens old b → Latest old x → NoLater x (take (length b.rows) times)

-- there is none, and the loop shows it
pub record Refused (b : Book) (codes : List ℕ) : Type 0 where
  pub none : Feasible b → ⊥
  pub reducing : ReducingLoop b codes
  pub short : length codes ≤ bound b

abbrev pub Answers : Book → Result Found Loop → Type 0
Answers b (Ok f) = Solved b f.depth f.times
Answers b (Err l) = Refused b (codes_of l)
