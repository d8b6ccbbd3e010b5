use Rattle.std.proofs.Common.{◌≡◌, ℕ, ◌<◌, Bool, true, false, List, [], ◌∷◌, Option, None, Some, map, length, refl, ap, ◌∙◌, arith, rules, tests}
use Rattle.std.specs.Str.{bytes_eq}
use Rattle.std.specs.List.{AllWithin, HoldsAt}
use Rattle.std.specs.Option.{MatchOption}
use Rattle.std.proofs.lemmas.Slice.Eq.{bytes_eq-Decides}
use Rattle.std.proofs.lemmas.Iterator.{IsFirst-from_position, YieldsList-from_slice}
use Rattle.std.proofs.lemmas.List.{get_or-map, length-map}
use Rattle.std.proofs.lemmas.List.Recursion.{or_is}
use Rattle.book.specs.declared.row.Row.{Row as HeldRow}
use Rattle.book.specs.Book.{Row, opening, has_name, Lookup}
use Rattle.book.specs.Held.{spelling, row_of}
use Rattle.book.proofs.table.edits.named.Goals as goal

module _ (n : List ℕ) where
  abbrev is_it : HeldRow → Bool
  is_it r = bytes_eq (spelling r.name) n

  abbrev has : List HeldRow → Bool
  has rows = has_name (map row_of rows) n

  -- the first row that has the name, or none
  Lookup-from_first : (rows : List HeldRow) (r : Option ℕ) → MatchOption r (AllWithin (λ x. is_it x ≡ false) rows 0 (length rows)) (λ i. (i < length rows) × HoldsAt (λ x. is_it x ≡ true) rows i × AllWithin (λ x. is_it x ≡ false) rows 0 i) → Lookup (map row_of rows) n r
  Lookup-from_first [] None h = record { test = refl; place = tt }
  Lookup-from_first [] (Some i) h = absurd (omega (arith, h.0))
  Lookup-from_first (x ∷ xs) None h =
      record { test = or_is has is_it refl (λ _ _. refl) (x ∷ xs) x false (λ e. absurd cc) (λ e i l. h i x (omega arith) l); place = tt }
  Lookup-from_first (x ∷ xs) (Some i) h =
      record {
        test = or_is has is_it refl (λ _ _. refl) (x ∷ xs) x true (λ e. (i, h.0, h.1 x)) (λ e. absurd cc);
        place = (omega (arith, h.0, length-map (x ∷ xs) row_of), ap (λ (r : Row). r.name) (get_or-map row_of (x ∷ xs) i x opening h.0) ∙ (bytes_eq-Decides _ n).0 (h.1 x));
      }

pub returns : goal.returns
returns c =
    let n = c.args.name.now in
    Lookup-from_first n c.args.rows.now _ (IsFirst-from_position _ _ _ (λ x. is_it n x ≡ true) (λ x. is_it n x ≡ false) c.position.ensures.ran (YieldsList-from_slice c.args.rows.now cc) (λ x q k. search (rules, tests)) (λ x q k. search (rules, tests)))
