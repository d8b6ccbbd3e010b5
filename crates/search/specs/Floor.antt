-- The step down to a period: the greatest multiple of the period that is not above a number.
use Rattle.std.specs.Prelude.{◌≡◌, ℤ, ◌+ℤ◌, ◌-ℤ◌, ◌*ℤ◌, ◌≤ℤ◌}
use Rattle.std.specs.Int.{int_rem_euclid}

abbrev pub Multiple : ℤ → ℤ → Type 0
Multiple p x = (q : ℤ) × (x ≡ q *ℤ p)

-- r is the greatest multiple of p that is not above x
pub record GreatestMultiple (p x r : ℤ) : Type 0 where
  pub on : Multiple p r
  pub below : r ≤ℤ x
  pub greatest : (z : ℤ) → Multiple p z → z ≤ℤ x → z ≤ℤ r

-- the same as a function, for a period p of 1 or more: x less what it is above a multiple, below zero too
abbrev pub floor : ℤ → ℤ → ℤ
floor p x = x -ℤ int_rem_euclid x p

-- all that is used of the step down above this crate
pub record FloorFacts (p : ℤ) : Type 0 where
  pub lands : (x : ℤ) → Multiple p (floor p x)
  pub leaves : (x : ℤ) → Multiple p x → floor p x ≡ x
  pub keeps_order : (x y : ℤ) → x ≤ℤ y → floor p x ≤ℤ floor p y
  pub never_raises : (x : ℤ) → floor p x ≤ℤ x
  pub moves_along : (x k : ℤ) → floor p (x +ℤ k *ℤ p) ≡ floor p x +ℤ k *ℤ p
