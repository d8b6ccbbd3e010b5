-- The rounds: each event's reading, and the item that brought it. What a search finds, over chains, is the second half
-- of `Sought`, at the end; what stands before it is how the rounds come there.
use Rattle.std.specs.Prelude.{◌≡◌, ℕ, zero, suc, ◌<◌, ◌≤◌, Bool, true, false, cond, List, [], ◌∷◌, length, Some, None, Option, ◌==◌, slice_index_or}
use Rattle.search.specs.declared.item.Item.{Item}
use Rattle.search.specs.Limits.{most_events, most_rounds}
use Rattle.search.specs.Kinds.{Kind, Le}
use Rattle.search.specs.Chains.{Least, LeastEver, Settles}

-- o comes no later than p, where no reading comes after every reading
abbrev pub AtMost : {V : Type 0} → Kind V → Option V → Option V → Type 0
AtMost kind None None = Unit {0}
AtMost kind None (Some y) = ⊥
AtMost kind (Some x) None = Unit {0}
AtMost kind (Some x) (Some y) = Le kind x y

-- the first comes strictly before the second
abbrev pub Before : {V : Type 0} → Kind V → Option V → Option V → Type 0
Before kind None None = ⊥
Before kind None (Some y) = ⊥
Before kind (Some x) None = Unit {0}
Before kind (Some x) (Some y) = kind.before x y ≡ true

-- what the item makes of a reading, if there is one
abbrev pub lift : {V : Type 0} → Kind V → Item → Option V → Option V
lift kind i None = None
lift kind i (Some v) = Some (kind.stepped i v)

-- the one that comes first of the two
abbrev pub least : {V : Type 0} → Kind V → Option V → Option V → Option V
least kind None p = p
least kind (Some x) None = Some x
least kind (Some x) (Some y) = cond (kind.before y x) (Some y) (Some x)

-- the least of acc and of what the items to j make of the row
abbrev pub pass : {V : Type 0} → Kind V → (ℕ → Option V) → ℕ → Option V → List Item → Option V
pass kind row j acc [] = acc
pass kind row j acc (i ∷ is) = pass kind row j (cond (i.to == j) (least kind acc (lift kind i (row i.from))) acc) is

-- the reading of event j after so many rounds, each made from the readings that the round before left
abbrev pub best : {V : Type 0} → Kind V → List Item → ℕ → ℕ → ℕ → Option V
best kind items start zero j = cond (j == start) (Some kind.first) None
best kind items start (suc k) j = pass kind (best kind items start k) j (best kind items start k j) items

-- a layer by event
abbrev pub row_of : {V : Type 0} → List (Option V) → ℕ → Option V
row_of layer j = slice_index_or layer j None

-- each reading of the row may be carried on
abbrev pub Steppable : {V : Type 0} → (ℕ → V → Type 0) → (ℕ → Option V) → Type 0
Steppable {V} reached row = (j : ℕ) (v : V) → row j ≡ Some v → (k : ℕ) × (k < most_rounds) × reached k v

-- the item of number n is why event j changed from `row` to `next`
pub record Cause {V : Type 0} (kind : Kind V) (items : List Item) (row next : ℕ → Option V) (j n : ℕ) : Type 0 where
  pub item : Item
  pub known : n < length items
  pub at : (d : Item) → slice_index_or items n d ≡ item
  pub ends : item.to ≡ j
  pub is : next j ≡ lift kind item (row item.from)
  pub fell : Before kind (next j) (row j)

-- the noted item is why event j changed, or nothing is noted and it did not
abbrev pub Why : {V : Type 0} → Kind V → List Item → (ℕ → Option V) → (ℕ → Option V) → ℕ → Option ℕ → Type 0
Why kind items row next j None = next j ≡ row j
Why kind items row next j (Some n) = Cause kind items row next j n

-- nothing changed, or the event that is told did
abbrev pub Changed : {V : Type 0} → Kind V → (ℕ → Option V) → (ℕ → Option V) → Option ℕ → Type 0
Changed kind row next None = (j : ℕ) → next j ≡ row j
Changed kind row next (Some v) = (v < most_events) × Before kind (next v) (row v)

-- after the items `seen`, the first of `items`
pub record Passed {V : Type 0} (kind : Kind V) (items seen : List Item) (row : ℕ → Option V) (next : List (Option V)) (causes : List (Option ℕ)) (changed : Option ℕ) : Type 0 where
  pub wide : length next ≡ most_events
  pub causes_wide : length causes ≡ most_events
  pub layer : (j : ℕ) → row_of next j ≡ pass kind row j (row j) seen
  pub why : (j : ℕ) → Why kind items row (row_of next) j (slice_index_or causes j None)
  pub changes : Changed kind row (row_of next) changed

-- the event changed in round k, or k is 0 and it is the start
abbrev pub Last : {V : Type 0} → Kind V → List Item → ℕ → ℕ → ℕ → Type 0
Last kind items start zero v = v ≡ start
Last kind items start (suc n) v = (v < most_events) × Before kind (best kind items start (suc n) v) (best kind items start n v)

-- after k rounds
pub record Run {V : Type 0} (kind : Kind V) (items : List Item) (start k : ℕ) (layer : List (Option V)) (causes : List (List (Option ℕ))) (last : ℕ) : Type 0 where
  pub wide : length layer ≡ most_events
  pub is : (j : ℕ) → row_of layer j ≡ best kind items start k j
  pub why : (n : ℕ) → n < k → (j : ℕ) → Why kind items (best kind items start n) (best kind items start (suc n)) j (slice_index_or (slice_index_or causes n []) j None)
  pub firsts : (n : ℕ) → n < k → (v : ℕ) × (v < most_events) × Before kind (best kind items start (suc n) v) (best kind items start n v)
  pub last_is : Last kind items start k last

-- round k + 1 changes nothing
abbrev pub Still : {V : Type 0} → Kind V → List Item → ℕ → ℕ → Type 0
Still kind items start k = (j : ℕ) → best kind items start (suc k) j ≡ best kind items start k j

-- what a search of at most `room` rounds finds: it made so many, and settled or not
pub record Sought {V : Type 0} (kind : Kind V) (items : List Item) (start room made : ℕ) (settled : Bool) (layer : List (Option V)) (causes : List (List (Option ℕ))) (last : ℕ) : Type 0 where
  pub run : Run kind items start made layer causes last
  pub still : settled ≡ true → (made < room) × Still kind items start made
  pub full : settled ≡ false → made ≡ room
  -- over chains: after each round n the least readings of chains of up to n items; at the end those of up to as many
  -- items as rounds were made, and as there is room for; where it settled, of any length; and no fewer rounds settle
  pub each : (n : ℕ) → n ≤ made → (j : ℕ) → Least kind items start n j (best kind items start n j)
  pub least : (j : ℕ) → Least kind items start made j (row_of layer j)
  pub asked : (j : ℕ) → Least kind items start room j (row_of layer j)
  pub ever : settled ≡ true → (j : ℕ) → LeastEver kind items start j (row_of layer j)
  pub settles : settled ≡ true → Settles kind items start made
  pub first : (n : ℕ) → n < made → Settles kind items start n → ⊥
