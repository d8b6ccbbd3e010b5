-- A call is answered by the book: what is left to show where it is refused for want of a timetable.
use Rattle.std.proofs.Common.{◌≡◌, ℕ, ◌-◌, List, [], ◌∷◌, ◌++◌, length, take, ℤ, Some, None, Option, sym, ap, ◌∙◌, subst, inr, arith}
use Rattle.std.proofs.lemmas.List.{length_push, take-append-le, take_all}
use Rattle.book.specs.declared.mark.Mark.{Mark}
use Rattle.book.specs.Book.{Book, Row, with_rows}
use Rattle.planner.specs.Calls.{Call, Answer, refused, failed, wants, Refused, Answered, ByBook}

module _ (b : Book) (c : Call) (a : Answer) (after : Book) where
  pub by_want : (n : ℕ) → failed b c ≡ None → wants c ≡ Some n → a ≡ refused n → after ≡ b → ByBook b c a after
  by_want n h w e f = subst (λ (o : Option ℕ). Answered b c o a after) (sym h) (inr (subst (λ (o : Option ℕ). Refused b o a after) (sym w) (e, f)))

-- what was put behind a list and taken away again
front_of_push : {X : Type 0} (xs : List X) (x : X) → take (length (xs ++ x ∷ []) - 1) (xs ++ x ∷ []) ≡ xs
front_of_push xs x =
    let n : length (xs ++ x ∷ []) - 1 ≡ length xs = omega (arith, length_push xs x) in
    ap (λ (k : ℕ). take k (xs ++ x ∷ [])) n ∙ (take-append-le (length xs) xs (x ∷ []) (omega arith) ∙ take_all (length xs) xs (omega arith))

pub rows_undone : (b x y : Book) (r : Row) → x ≡ with_rows b (b.rows ++ r ∷ []) → y ≡ with_rows x (take (length x.rows - 1) x.rows) → y ≡ b
rows_undone b x y r e f = f ∙ (ap (λ (z : Book). with_rows z (take (length z.rows - 1) z.rows)) e ∙ ap (with_rows b) (front_of_push b.rows r))

pub same_row : (m : Mark) (n k : List ℕ) (e f l h : ℤ) → n ≡ k → e ≡ f → l ≡ h → ◌≡◌ {A = Row} (record { name = n; mark = m; earliest = e; latest = l }) (record { name = k; mark = m; earliest = f; latest = h })
same_row m n k e f l h p q r = cc
