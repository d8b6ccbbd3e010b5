-- The numbers of a plan text: `0`, or an optional `-`, a digit 1 to 9, and up to nine digits more.
use Rattle.std.specs.Prelude.{ℕ, ◌+◌, ◌-◌, ◌*◌, ◌^◌, ◌<◌, Bool, false, cond, ◌&&◌, List, [], ◌∷◌, length, ℤ, pos, neg_ℤ, Some, None, Option, ◌==◌, nat_le, unsigned_abs}
use Rattle.std.specs.Option.{option_map}
use Rattle.std.specs.Str.{all_ascii_digits}

-- digits read from the left, after the number so far
abbrev pub read_on : ℕ → List ℕ → ℕ
read_on n [] = n
read_on n (c ∷ cs) = read_on (n * 10 + (c - 48)) cs

-- a digit 1 to 9, and up to nine digits more
abbrev pub is_figures : List ℕ → Bool
is_figures [] = false
is_figures (c ∷ cs) = (nat_le 49 c && nat_le c 57) && (all_ascii_digits cs && nat_le (length cs) 9)

abbrev pub figures_of : List ℕ → Option ℕ
figures_of cs = cond (is_figures cs) (Some (read_on 0 cs)) None

-- the number that a field writes
abbrev pub value_of : List ℕ → Option ℤ
value_of [] = None
value_of (c ∷ cs) = cond (c == 45) (option_map (λ n. neg_ℤ (pos n)) (figures_of cs)) (cond (c == 48 && length cs == 0) (Some (pos 0)) (option_map pos (figures_of (c ∷ cs))))

-- it has at most ten digits
abbrev pub Small : ℤ → Type 0
Small z = unsigned_abs z < 10 ^ 10
