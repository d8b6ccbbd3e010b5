-- How many rows and gaps the book of a table has, and what the checks of a call say of that and of a gap's ends.
use Rattle.std.proofs.Common.{◌≡◌, ℕ, ◌<◌, true, List, [], ◌∷◌, ◌++◌, length, ℤ, None, vec_items, vec_len, sym, ap, ◌∙◌, arith}
use Rattle.std.proofs.lemmas.List.{length-map, length_push}
use Rattle.std.proofs.lemmas.Bool.Decides.{nat_tests}
use Rattle.book.specs.declared.mark.Mark.{Mark}
use Rattle.book.specs.declared.table.Table.{Table}
use Rattle.book.specs.Limits.{most_events, most_gaps}
use Rattle.book.specs.Book.{Book, Row, with_rows, opens, all_join}
use Rattle.book.specs.Held.{row_of, gap_of, book_of}
use Rattle.book.proofs.Joined.{opens_push, all_join_more}
use Rattle.planner.specs.Calls.{event, gap, failed}

pub rows_many : (t : Table) → length (book_of t).rows ≡ vec_len t.rows
rows_many t = length-map (vec_items t.rows) row_of ∙ sym t.rows.ok.0

pub gaps_many : (t : Table) → length (book_of t).gaps ≡ vec_len t.gaps
gaps_many t = length-map (vec_items t.gaps) gap_of ∙ sym t.gaps.ok.0

pub room_for_row : (b : Book) (n : List ℕ) (m : Mark) (e l : ℤ) → failed b (event n m e l) ≡ None → length b.rows < most_events
room_for_row b n m e l h = grind (arith, nat_tests)

pub room_for_gap : (b : Book) (i j : ℕ) (w : ℤ) → failed b (gap i j w) ≡ None → length b.gaps < most_gaps
room_for_gap b i j w h = grind (arith, nat_tests)

-- of a book whose opening is a frame event and whose gaps begin and end at its events: so it stays with one row more
pub opens_with_row : (b z : Book) (r : Row) → z ≡ with_rows b (b.rows ++ r ∷ []) → opens b.rows ≡ true → opens z.rows ≡ true
opens_with_row b z r e h = ap (λ (x : Book). opens x.rows) e ∙ opens_push b.rows r h

pub joined_with_row : (b z : Book) (r : Row) → z ≡ with_rows b (b.rows ++ r ∷ []) → all_join (length b.rows) b.gaps ≡ true → all_join (length z.rows) z.gaps ≡ true
joined_with_row b z r e h = ap (λ (x : Book). all_join (length x.rows) x.gaps) e ∙ all_join_more (length b.rows) (length (b.rows ++ r ∷ [])) b.gaps (omega (arith, length_push b.rows r)) h
