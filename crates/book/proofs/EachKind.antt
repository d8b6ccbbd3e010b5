-- How many events of each kind there are.
use Rattle.std.proofs.Common.{◌≡◌, ◌+◌, Bool, true, false, not, List, [], ◌∷◌, length, refl, arith}
use Rattle.book.specs.Book.{Row, is_frame, count, frames, frees}

-- each event is of one kind
one_kind : (b : Bool) → count b + count (not b) ≡ 1
one_kind true = refl
one_kind false = refl

pub frames-add-frees : (rows : List Row) → frames rows + frees rows ≡ length rows
frames-add-frees [] = refl
frames-add-frees (r ∷ rows) = omega (arith, one_kind (is_frame r.mark), frames-add-frees rows)
