-- How the items that are searched stand for those of the book.
use Rattle.std.specs.Prelude.{◌≡◌, ℕ, ◌<◌, cond, List, ◌++◌, map, length, take, drop, ℤ, pos}
use Rattle.std.specs.List.{All}
use Rattle.search.specs.declared.item.Item.{Item as Searched}
use Rattle.loops.specs.Loops.{Reducing}
use Rattle.book.specs.Book.{Row, Gap, is_frame, framed}
use Rattle.timetable.specs.Chains.{Item, gap_items, edge_items}

abbrev pub item_of : Searched → Item
item_of i = record { from = i.from; to = i.to; weight = i.weight; code = i.code }

-- the item of the gap, by this code
abbrev pub gap_item : ℕ → Gap → Item
gap_item k g = record { from = g.from; to = g.to; weight = g.width; code = k }

abbrev pub items_of : List Row → List Gap → List Item
items_of rows gaps = gap_items 0 gaps ++ edge_items 1 (drop 1 rows)

abbrev pub no_item : Item
no_item = record { from = 0; to = 0; weight = pos 0; code = 0 }

-- a searched item knows the period, and whether it leads to a frame event
pub record Marked (period : ℤ) (rows : List Row) (i : Searched) : Type 0 where
  pub begins : i.from < length rows
  pub ends : i.to < length rows
  pub clock : i.period.ticks ≡ period
  pub marked : i.framed ≡ framed rows i.to

pub record Gathered (period : ℤ) (rows : List Row) (gaps : List Gap) (xs : List Searched) : Type 0 where
  pub same : map item_of xs ≡ items_of rows gaps
  pub good : All (Marked period rows) xs

-- the level of an event: 1 on the frame clock, 0 free
abbrev pub level_of : Row → ℕ
level_of r = cond (is_frame r.mark) 1 0

-- the levels of the events by number
abbrev pub levels_of : List Row → List ℕ
levels_of rows = map level_of rows

-- the record has the codes of a reducing loop of the searched items
pub record Recorded (levels : List ℕ) (xs : List Searched) (count : ℕ) (codes : List ℕ) : Type 0 where
  pub chain : List Searched
  pub reducing : Reducing levels xs chain
  pub coded : take count codes ≡ map (λ (i : Searched). i.code) chain
