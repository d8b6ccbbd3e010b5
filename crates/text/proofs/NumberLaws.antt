-- The laws of reading a number.
use Rattle.std.proofs.Common.{◌≡◌, ℕ, ◌^◌, ◌<◌, ◌≤◌, true, false, List, [], ◌∷◌, length, get_or, Bool, w64, ℤ, pos, Some, None, refl, arith, rules}
use Rattle.std.specs.Option.{option_map}
use Rattle.std.specs.Str.{all_ascii_digits}
use Rattle.std.proofs.lemmas.Str.Parse.{IsNumeralModel, numerals_by_fold}
use Rattle.std.proofs.lemmas.Bool.Decides.{nat_tests}
use Rattle.std.specs.Prelude.{Result, Ok, Err, IfSome}
use Rattle.std.specs.Result.{OkIff, result_ok}
use Rattle.std.specs.Str.{IsUtf8}
use Rattle.std.specs.Str.Parse.{ParsesSigned}
use Rattle.std.proofs.lemmas.Str.{IsUtf8-from_ascii}
use Rattle.std.proofs.lemmas.Fmt.{IsAscii-from_digits}
use Rattle.std.proofs.lemmas.Str.Parse.{parse_signed_plain, digits_value_short}
use Rattle.text.specs.Number.{read_on, figures_of, Small}

-- `read_on` reads decimal digits, so the library's laws of them hold of it
pub own : IsNumeralModel (λ ds. all_ascii_digits ds ≡ true) (read_on 0)
own = numerals_by_fold _ (search rules) read_on (search rules)

pub figures_is : (ds : List ℕ) → 0 < length ds → (get_or ds 0 0 ≡ 48 → ⊥) → length ds ≤ 10 → all_ascii_digits ds ≡ true → figures_of ds ≡ Some (read_on 0 ds)
figures_is [] some ne short all = absurd (omega arith)
figures_is (c ∷ cs) some ne short all = grind (arith, nat_tests)

pub figures_none : (ds : List ℕ) → all_ascii_digits ds ≡ false → figures_of ds ≡ None
figures_none [] h = refl
figures_none (c ∷ cs) h = grind (arith, nat_tests)

-- what the library's parse gives of up to ten bytes that begin with 1 to 9
pub figures_parsed : {E : Type 0} (ds : List ℕ) (r : Result ℤ E) → 0 < length ds → 49 ≤ get_or ds 0 0 → get_or ds 0 0 ≤ 57 → length ds ≤ 10 → ParsesSigned w64 10 ds r → (result_ok r ≡ option_map pos (figures_of ds)) × IfSome (result_ok r) Small
figures_parsed {E} ds r some low high short h = by (all_ascii_digits ds) refl r (parse_signed_plain own w64 ds r h (omega arith) (omega arith))
  where
    by : (b : Bool) → all_ascii_digits ds ≡ b → (r : Result ℤ E) → OkIff r ((all_ascii_digits ds ≡ true) × (0 < length ds) × (read_on 0 ds < 2 ^ 63)) (pos (read_on 0 ds)) → (result_ok r ≡ option_map pos (figures_of ds)) × IfSome (result_ok r) Small
    by true all (Ok z) w = (rw (figures_is ds some (omega arith) short all, w.1) refl, rw w.1 (digits_value_short own ds 10 all short))
    by true all (Err e) w = absurd (w (all, some, omega (arith, digits_value_short own ds 10 all short)))
    by false all (Ok z) w = absurd (cc w.0.0)
    by false all (Err e) w = (rw (figures_none ds all) refl, tt)

-- bytes that are no text are no digits
pub figures_not_utf8 : (ds : List ℕ) → (IsUtf8 ds → ⊥) → figures_of ds ≡ None
figures_not_utf8 ds h = by (all_ascii_digits ds) refl
  where
    by : (b : Bool) → all_ascii_digits ds ≡ b → figures_of ds ≡ None
    by true all = absurd (h (IsUtf8-from_ascii ds (IsAscii-from_digits ds (own.to ds all))))
    by false all = figures_none ds all
