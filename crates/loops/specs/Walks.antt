-- How the way back from a change is found, and the loop on it.
use Rattle.std.specs.Prelude.{◌≡◌, ℕ, suc, ◌-◌, ◌<◌, ◌≤◌, ◌⊎◌, List, [], ◌∷◌, length, take, drop, Some, None, Option}
use Rattle.std.specs.List.{Contains, All}
use Rattle.search.specs.declared.item.Item.{Item}
use Rattle.search.specs.declared.values.CarriedTime.{CarriedTime}
use Rattle.search.specs.Carried.{carried}
use Rattle.search.specs.Rounds.{Before, lift, best, Last, Run}
use Rattle.loops.specs.Levels.{level}
use Rattle.loops.specs.Loops.{picked}

-- the reading of event v after so many rounds from the opening
abbrev pub after : List Item → ℕ → ℕ → Option CarriedTime
after items = best carried items 0

-- these are the causes of a search from the opening in which every round changed something, event `last` last
abbrev pub Ran : List Item → List (List (Option ℕ)) → ℕ → Type 0
Ran items causes last = (layer : List (Option CarriedTime)) × Run carried items 0 (length causes) layer causes last

-- the chain goes on from event u after round k, an item a round, and each item is why its event changed
abbrev pub Falls : List Item → ℕ → ℕ → List Item → Type 0
Falls items k u [] = Unit {0}
Falls items k u (i ∷ c) =
    Contains items i × (i.from ≡ u) × (after items (suc k) i.to ≡ lift carried i (after items k u)) × Before carried (after items (suc k) i.to) (after items k i.to) × Falls items (suc k) i.to c

-- each number is that of an item
abbrev pub Known : List Item → List ℕ → Type 0
Known items numbers = All (λ n. n < length items) numbers

-- event `at` changed in round k, and the path from place k on goes on from there
pub record Walked (items : List Item) (k at : ℕ) (path : List ℕ) : Type 0 where
  pub low : k ≤ length path
  pub last : Last carried items 0 k at
  pub known : Known items (drop k path)
  pub falls : Falls items k at (picked items (drop k path))

-- the whole path
pub record Path (items : List Item) (path : List ℕ) : Type 0 where
  pub known : Known items path
  pub falls : Falls items 0 0 (picked items path)

-- where the chain begins
abbrev pub start_of : List Item → ℕ
start_of [] = 0
start_of (i ∷ c) = i.from

-- where it ends, from event u on
abbrev pub finish : ℕ → List Item → ℕ
finish u [] = u
finish u (i ∷ c) = finish i.to c

-- some item of the chain leads to x, and none before it to an event of a higher level
abbrev pub Closes : List ℕ → ℕ → List Item → Type 0
Closes levels x [] = ⊥
Closes levels x (i ∷ c) = (x ≡ i.to) ⊎ ((level levels i.to ≤ level levels x) × Closes levels x c)

-- the chain's first items lead back to x, and to no event of a higher level
pub record Closed (levels : List ℕ) (x : ℕ) (c : List Item) (count : ℕ) : Type 0 where
  pub some : 0 < count
  pub within : count ≤ length c
  pub ends : finish x (take count c) ≡ x
  pub under : All (λ i. level levels i.to ≤ level levels x) (take count c)

-- so many of the chain's first items lead back to where it begins, or none do
abbrev pub Back : List ℕ → List Item → Option ℕ → Type 0
Back levels c None = Closes levels (start_of c) c → ⊥
Back levels c (Some n) = Closed levels (start_of c) c n

-- of the first items, none leads back to x, or to an event of a higher level
pub record Scanned (levels : List ℕ) (items : List Item) (numbers : List ℕ) (x place : ℕ) : Type 0 where
  pub under : All (λ i. level levels i.to ≤ level levels x) (picked items (take place numbers))
  pub rest : Closes levels x (picked items numbers) → Closes levels x (picked items (drop place numbers))

-- from place s on the path leads back to there
abbrev pub ClosesAt : List ℕ → List Item → List ℕ → ℕ → Type 0
ClosesAt levels items path s = Closes levels (start_of (picked items (drop s path))) (picked items (drop s path))

-- a part of the path, from place s up to e, leads back to where it begins
pub record Found (levels : List ℕ) (items : List Item) (path : List ℕ) (s e : ℕ) : Type 0 where
  pub inside : (s ≤ e) × (e ≤ length path)
  pub closed : Closed levels (start_of (picked items (drop s path))) (picked items (drop s path)) (e - s)
