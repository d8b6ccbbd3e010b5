-- Names of events.
use Rattle.std.specs.Prelude.{ℕ, Bool, ◌&&◌, ◌||◌, List, length, ◌==◌, nat_le, nat_lt}
use Rattle.std.specs.Char.{is_ascii_alphabetic, is_ascii_digit}
use Rattle.std.specs.List.{list_all}
use Rattle.book.specs.Limits.{most_name}

-- A-Z, a-z, 0-9, `_` and `-`
abbrev pub is_letter : ℕ → Bool
is_letter b = is_ascii_alphabetic b || (is_ascii_digit b || (b == 95 || b == 45))

abbrev pub letters : List ℕ → Bool
letters = list_all is_letter

abbrev pub is_name : List ℕ → Bool
is_name bs = nat_lt 0 (length bs) && (nat_le (length bs) most_name && letters bs)
