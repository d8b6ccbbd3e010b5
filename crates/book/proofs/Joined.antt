-- What stays while rows and gaps come and go at the end: row 0 is a frame event, and each gap begins and ends at a row.
use Rattle.std.proofs.Common.{◌≡◌, ℕ, zero, suc, ◌<◌, ◌≤◌, true, List, [], ◌∷◌, ◌++◌, get_or, take, drop, refl, ap, sym, ◌∙◌, arith, take-append-drop}
use Rattle.std.proofs.lemmas.Bool.{and_parts, and_from}
use Rattle.std.proofs.lemmas.Bool.Decides.{nat_tests}
use Rattle.std.proofs.lemmas.List.Folds.{list_all-append}
use Rattle.std.proofs.lemmas.List.Sums.{AllPass-from_list_all, list_all-from_AllPass}
use Rattle.book.specs.Book.{Row, Gap, joins, all_join, opens}

pub opens_push : (rs : List Row) (r : Row) → opens rs ≡ true → opens (rs ++ r ∷ []) ≡ true
opens_push [] r h = cc
opens_push (x ∷ rs) r h = h

pub opens-take : (k : ℕ) (rs : List Row) → 0 < k → opens rs ≡ true → opens (take k rs) ≡ true
opens-take zero rs l h = absurd (omega arith)
opens-take (suc k) [] l h = h
opens-take (suc k) (r ∷ rs) l h = h

joins_more : (m n : ℕ) (g : Gap) → m ≤ n → joins m g ≡ true → joins n g ≡ true
joins_more m n g l h = grind (arith, nat_tests)

-- more rows are no harm
pub all_join_more : (m n : ℕ) (gs : List Gap) → m ≤ n → all_join m gs ≡ true → all_join n gs ≡ true
all_join_more m n gs l h =
    list_all-from_AllPass (joins n) gs (λ k d i. joins_more m n (get_or gs k d) l (AllPass-from_list_all (joins m) gs h k d i))

pub all_join_push : (n : ℕ) (gs : List Gap) (g : Gap) → all_join n gs ≡ true → joins n g ≡ true → all_join n (gs ++ g ∷ []) ≡ true
all_join_push n gs g h j = list_all-append (joins n) gs (g ∷ []) ∙ and_from _ _ h (and_from _ _ j refl)

pub all_join_take : (n k : ℕ) (gs : List Gap) → all_join n gs ≡ true → all_join n (take k gs) ≡ true
all_join_take n k gs h =
    (and_parts _ (all_join n (drop k gs)) (sym (list_all-append (joins n) (take k gs) (drop k gs)) ∙ (ap (all_join n) (take-append-drop k gs) ∙ h))).0
