-- Events of several levels. Each level has a period, which is a multiple of that of the level below, and an event lies
-- on a multiple of its level's period. Two levels serve a plan: free events, of period 1, and frame events.
use Rattle.std.specs.Prelude.{◌≡◌, ℕ, zero, suc, ◌+◌, ◌*◌, ◌<◌, ◌≤◌, cond, List, [], ◌∷◌, length, ℤ, pos, ◌+ℤ◌, ◌-ℤ◌, ◌≤ℤ◌, ◌==◌, slice_index}
use Rattle.std.specs.List.{Contains}
use Rattle.search.specs.declared.item.Item.{Item}
use Rattle.search.specs.Floor.{Multiple, floor}
use Rattle.search.specs.Carried.{carry}

-- the level of event v, where `levels` has them by number
abbrev pub level : List ℕ → ℕ → ℕ
level levels v = slice_index levels v

-- how many events have level k
abbrev pub ranked : List ℕ → ℕ → ℕ
ranked [] k = 0
ranked (l ∷ ls) k = cond (l == k) 1 0 + ranked ls k

-- (c 0 + 1) * … * (c (k - 1) + 1)
abbrev pub product : (ℕ → ℕ) → ℕ → ℕ
product c zero = 1
product c (suc k) = product c k * (c k + 1)

-- how many events at the most can be passed, the opening first, before one comes again with none of a higher level
-- between: of level 1 for m events and of level 0 for r, m * (r + 1)
abbrev pub room : List ℕ → ℕ
room levels = ranked levels (level levels 0) * product (ranked levels) (level levels 0)

-- no event is of a higher level than the opening, and the items lead from events to events
pub record Ordered (levels : List ℕ) (items : List Item) : Type 0 where
  pub some : 0 < length levels
  pub top : (v : ℕ) → level levels v ≤ level levels 0
  pub begins : (i : Item) → Contains items i → i.from < length levels
  pub ends : (i : Item) → Contains items i → i.to < length levels

-- the periods of the levels
pub record Periods (period : ℕ → ℤ) : Type 0 where
  pub positive : (k : ℕ) → pos 1 ≤ℤ period k
  pub nested : (k : ℕ) → Multiple (period k) (period (suc k))

-- each item carries a time down to the period of the event where it leads
abbrev pub Steps : (ℕ → ℤ) → List ℕ → List Item → Type 0
Steps period levels items = (i : Item) → Contains items i → (z : ℤ) → carry i z ≡ floor (period (level levels i.to)) (z +ℤ i.weight)

-- the times x keep the items
pub record Keeps (period : ℕ → ℤ) (levels : List ℕ) (items : List Item) (x : ℕ → ℤ) : Type 0 where
  pub on_clock : (v : ℕ) → Multiple (period (level levels v)) (x v)
  pub kept : (i : Item) → Contains items i → (x i.to -ℤ x i.from) ≤ℤ i.weight
