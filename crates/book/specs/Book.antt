-- A plan as what was asked of it, and nothing else: no times, no solver.
use Rattle.std.specs.Prelude.{◌≡◌, ℕ, ◌+◌, ◌<◌, Bool, true, false, not, ◌&&◌, List, [], ◌∷◌, length, ℤ, pos, is_some, IfSome, codes, Option, int_le, nat_lt, slice_index_or}
use Rattle.std.specs.List.{list_all, list_any}
use Rattle.std.specs.Str.{bytes_eq}
use Rattle.book.specs.declared.mark.Mark.{Mark}
use Rattle.book.specs.declared.mark.Mark.TheVariants.{Frame, Free}

-- an event
pub record Row : Type 0 where
  pub name : List ℕ
  pub mark : Mark
  pub earliest : ℤ
  pub latest : ℤ

-- the time of `to` less the time of `from` is at most the width
pub record Gap : Type 0 where
  pub from : ℕ
  pub to : ℕ
  pub width : ℤ

-- events and gaps have their places as numbers; row 0 is the opening, whose window counts for nothing
pub record Book : Type 0 where
  pub period : ℤ
  pub length : ℤ
  pub rows : List Row
  pub gaps : List Gap

abbrev pub opening : Row
opening = record { name = codes "opening"; mark = Frame; earliest = pos 0; latest = pos 0 }

-- the opening alone
abbrev pub made : ℤ → ℤ → Book
made p h = record { period = p; length = h; rows = opening ∷ []; gaps = [] }

abbrev pub fresh : Book
fresh = made (pos 1) (pos 1)

abbrev pub with_rows : Book → List Row → Book
with_rows b rs = record { period = b.period; length = b.length; rows = rs; gaps = b.gaps }

abbrev pub with_gaps : Book → List Gap → Book
with_gaps b gs = record { period = b.period; length = b.length; rows = b.rows; gaps = gs }

abbrev pub is_frame : Mark → Bool
is_frame Frame = true
is_frame Free = false

abbrev pub count : Bool → ℕ
count true = 1
count false = 0

-- how many frame events there are
abbrev pub frames : List Row → ℕ
frames [] = 0
frames (r ∷ rs) = count (is_frame r.mark) + frames rs

-- how many free events there are
abbrev pub frees : List Row → ℕ
frees [] = 0
frees (r ∷ rs) = count (not (is_frame r.mark)) + frees rs

-- the row of event j
abbrev pub row : List Row → ℕ → Row
row rows j = slice_index_or rows j opening

-- event j is a frame event
abbrev pub framed : List Row → ℕ → Bool
framed rows j = is_frame (row rows j).mark

-- some event has the name
abbrev pub has_name : List Row → List ℕ → Bool
has_name rows n = list_any (λ r. bytes_eq r.name n) rows

-- a look-up of the name answers r: the number of an event that has it, or nothing where none has
pub record Lookup (rows : List Row) (n : List ℕ) (r : Option ℕ) : Type 0 where
  pub test : is_some r ≡ has_name rows n
  pub place : IfSome r (λ i. (i < length rows) × ((slice_index_or rows i opening).name ≡ n))

abbrev pub good_window : Book → ℤ → ℤ → Bool
good_window b e l = int_le (pos 0) e && (int_le e l && int_le l b.length)

-- the gap begins and ends at one of the first n events
abbrev pub joins : ℕ → Gap → Bool
joins n g = nat_lt g.from n && nat_lt g.to n

-- so does each of the gaps
abbrev pub all_join : ℕ → List Gap → Bool
all_join n gaps = list_all (joins n) gaps

-- row 0 is there, and is a frame event
abbrev pub opens : List Row → Bool
opens [] = false
opens (r ∷ rs) = is_frame r.mark
