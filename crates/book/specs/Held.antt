-- What a table holds, as a book.
use Rattle.std.specs.Prelude.{ℕ, List, map, ℤ, vec_items}
use Rattle.book.specs.declared.name.Name.{Name}
use Rattle.book.specs.declared.row.Row.{Row as HeldRow}
use Rattle.book.specs.declared.row.Gap.{Gap as HeldGap}
use Rattle.book.specs.declared.table.Table.{Table}
use Rattle.book.specs.Book.{Book, Row, Gap}

abbrev pub spelling : Name → List ℕ
spelling n = n.text.bytes

abbrev pub row_of : HeldRow → Row
row_of r = record { name = spelling r.name; mark = r.mark; earliest = r.window.earliest; latest = r.window.latest }

abbrev pub gap_of : HeldGap → Gap
gap_of g = record { from = g.from; to = g.to; width = g.width }

abbrev pub book_of : Table → Book
book_of t = record { period = t.period.ticks; length = t.length; rows = map row_of (vec_items t.rows); gaps = map gap_of (vec_items t.gaps) }

-- the book of this period and length with these rows and gaps, which no table need hold
abbrev pub held : ℤ → ℤ → List HeldRow → List HeldGap → Book
held p h rows gaps = record { period = p; length = h; rows = map row_of rows; gaps = map gap_of gaps }
