-- Items, chains of items, what they read, and loops that cannot be kept.
use Rattle.std.specs.Prelude.{◌≡◌, ℕ, suc, ◌+◌, ◌*◌, ◌<◌, ◌≤◌, true, false, cond, ◌⊎◌, List, [], ◌∷◌, ◌++◌, map, length, drop, ℤ, pos, ◌+ℤ◌, neg_ℤ, ◌≤ℤ◌, ◌<ℤ◌, Some, None, Option}
use Rattle.std.specs.List.{Contains, All}
use Rattle.search.specs.Floor.{floor}
use Rattle.book.specs.Limits.{code_not_before, code_not_after}
use Rattle.book.specs.Book.{Book, Row, Gap, frames, frees, framed}

-- the time of `to` less the time of `from` is at most the weight; a loop names the item by its code
pub record Item : Type 0 where
  pub from : ℕ
  pub to : ℕ
  pub weight : ℤ
  pub code : ℕ

-- gaps by their numbers, from k on
abbrev pub gap_items : ℕ → List Gap → List Item
gap_items k [] = []
gap_items k (g ∷ gs) = record { from = g.from; to = g.to; weight = g.width; code = k } ∷ gap_items (suc k) gs

-- event j comes no sooner than its earliest time
abbrev pub not_before : ℕ → Row → Item
not_before j r = record { from = j; to = 0; weight = neg_ℤ r.earliest; code = code_not_before + j }

-- event j comes no later than its latest time
abbrev pub not_after : ℕ → Row → Item
not_after j r = record { from = 0; to = j; weight = r.latest; code = code_not_after + j }

-- the window edges of the events from j on
abbrev pub edge_items : ℕ → List Row → List Item
edge_items j [] = []
edge_items j (r ∷ rs) = not_before j r ∷ (not_after j r ∷ edge_items (suc j) rs)

-- the items of a book: its gaps, and the window edges of every event but the opening
abbrev pub items : Book → List Item
items b = gap_items 0 b.gaps ++ edge_items 1 (drop 1 b.rows)

-- a chain of some of the items leads from event i to event j: each item leads on from where the one before it ended
abbrev pub Leads : List Item → ℕ → List Item → ℕ → Type 0
Leads all i [] j = i ≡ j
Leads all i (a ∷ c) j = Contains all a × (a.from ≡ i) × Leads all a.to c j

-- an item adds its weight; where it leads to a frame event, the sum goes down to the greatest multiple of the period
-- that is not above it
abbrev pub step : Book → Item → ℤ → ℤ
step b a s = cond (framed b.rows a.to) (floor b.period (s +ℤ a.weight)) (s +ℤ a.weight)

-- what a chain reads, from s on
abbrev pub read : Book → ℤ → List Item → ℤ
read b s [] = s
read b s (a ∷ c) = read b (step b a s) c

-- some chain of at most n items from the opening to event j reads v
pub record Reads (b : Book) (n j : ℕ) (v : ℤ) : Type 0 where
  pub chain : List Item
  pub leads : Leads (items b) 0 chain j
  pub short : length chain ≤ n
  pub is : read b (pos 0) chain ≡ v

-- the least reading over chains of at most n items from the opening to event j, or None where no such chain leads there
abbrev pub LeastWithin : Book → ℕ → ℕ → Option ℤ → Type 0
LeastWithin b n j None = (v : ℤ) → Reads b n j v → ⊥
LeastWithin b n j (Some w) = Reads b n j w × ((v : ℤ) → Reads b n j v → w ≤ℤ v)

-- w is the least reading over all chains from the opening to event j
abbrev pub LeastReading : Book → ℕ → ℤ → Type 0
LeastReading b j w = ((n : ℕ) × Reads b n j w) × ((n : ℕ) (v : ℤ) → Reads b n j v → w ≤ℤ v)

-- chains of at most n items give each event the same least reading as chains of at most n + 1
abbrev pub SettledAt : Book → ℕ → Type 0
SettledAt b n = (j : ℕ) (o : Option ℤ) → LeastWithin b n j o → LeastWithin b (suc n) j o

-- the depth of a book is the least such n
abbrev pub Depth : Book → ℕ → Type 0
Depth b n = SettledAt b n × ((k : ℕ) → k < n → SettledAt b k → ⊥)

-- m * (r + 1), for m frame events, the opening among them, and r free ones: no loop that is handed over has more items
abbrev pub bound : Book → ℕ
bound b = frames b.rows * (frees b.rows + 1)

-- a reducing loop, by its codes: a chain of one item or more from an event back to it, which reads below 0 from 0, and
-- either begins at a frame event or touches none
pub record ReducingLoop (b : Book) (codes : List ℕ) : Type 0 where
  pub start : ℕ
  pub chain : List Item
  pub coded : map (λ (a : Item). a.code) chain ≡ codes
  pub some : 0 < length chain
  pub leads : Leads (items b) start chain start
  pub begins : (framed b.rows start ≡ true) ⊎ All (λ (a : Item). framed b.rows a.to ≡ false) chain
  pub falls : read b (pos 0) chain <ℤ pos 0
