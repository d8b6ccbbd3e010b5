-- Carried time.
use Rattle.std.specs.Prelude.{ℕ, ◌+◌, ◌*◌, cond, ℤ, pos, ◌+ℤ◌, neg_ℤ, ◌≤ℤ◌, int_lt}
use Rattle.search.specs.Limits.{most_weight, most_period}
use Rattle.search.specs.Floor.{floor}
use Rattle.search.specs.Kinds.{Kind}
use Rattle.search.specs.declared.item.Item.{Item}
use Rattle.search.specs.declared.values.CarriedTime.{CarriedTime}

abbrev pub time : ℤ → CarriedTime
time z = record { 0 = z }

-- the weight is added, and into a frame event the sum goes down to a multiple of the period
abbrev pub carry : Item → ℤ → ℤ
carry i z = cond i.framed (floor i.period.ticks (z +ℤ i.weight)) (z +ℤ i.weight)

abbrev pub carried : Kind CarriedTime
carried = record { before = λ a b. int_lt a.0 b.0; stepped = λ i v. time (carry i v.0); first = time (pos 0) }

-- how far k items can carry: each moves the sum by a weight at the most, and down by less than a period
abbrev pub InRange : ℕ → CarriedTime → Type 0
InRange k v = (neg_ℤ (pos ((most_weight + most_period) * k)) ≤ℤ v.0) × (v.0 ≤ℤ pos (most_weight * k))
