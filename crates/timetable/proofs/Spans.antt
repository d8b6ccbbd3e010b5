-- How many events of each kind there are, as levels.
use Rattle.std.proofs.Common.{◌≡◌, ℕ, ◌+◌, ◌*◌, Bool, true, false, cond, not, eqb, List, [], ◌∷◌, refl, ap, ◌∙◌, arith}
use Rattle.loops.specs.Levels.{level, ranked, product, room}
use Rattle.book.specs.Book.{Row, is_frame, count, frames, frees, opens}
use Rattle.timetable.specs.Gathered.{levels_of}

-- whether a row's level is 1, and whether it is 0, as numbers
one_level : (b : Bool) → (cond (eqb (cond b 1 0) 1) 1 0 ≡ count b) × (cond (eqb (cond b 1 0) 0) 1 0 ≡ count (not b))
one_level true = (refl, refl)
one_level false = (refl, refl)

ranks : (rows : List Row) → (ranked (levels_of rows) 1 ≡ frames rows) × (ranked (levels_of rows) 0 ≡ frees rows)
ranks [] = (refl, refl)
ranks (r ∷ rows) = let e = one_level (is_frame r.mark) in let t = ranks rows in (omega (arith, e.0, t.0), omega (arith, e.1, t.1))

pub top_level : (rows : List Row) → opens rows ≡ true → level (levels_of rows) 0 ≡ 1
top_level [] o = let z : ◌≡◌ {A = ℕ} 0 1 = cc in z
top_level (r ∷ rows) o = ap (λ (b : Bool). cond b 1 0) o

-- the room of two levels
pub room_is : (rows : List Row) → opens rows ≡ true → room (levels_of rows) ≡ frames rows * (frees rows + 1)
room_is rows o =
    let t = top_level rows o in
    let a = (ranks rows).0 in
    let b = (ranks rows).1 in
    ap (λ (k : ℕ). ranked (levels_of rows) k * product (ranked (levels_of rows)) k) t
    ∙ (ap (λ (m : ℕ). m * (1 * (ranked (levels_of rows) 0 + 1))) a ∙ (ap (λ (n : ℕ). frames rows * (1 * (n + 1))) b ∙ ap (λ (n : ℕ). frames rows * n) (omega arith)))
