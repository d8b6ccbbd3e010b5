-- Loops of items that no times keep.
use Rattle.std.specs.Prelude.{ℕ, ◌≤◌, List, [], ◌∷◌, ◌++◌, take, drop, ℤ, pos, ◌<ℤ◌, Some, None, Option}
use Rattle.std.specs.List.{All}
use Rattle.search.specs.declared.item.Item.{Item}
use Rattle.search.specs.declared.values.CarriedTime.{CarriedTime}
use Rattle.search.specs.Chains.{Leads, read}
use Rattle.search.specs.Carried.{time, carried}
use Rattle.loops.specs.Levels.{level}

-- what a chain carries the time s to
abbrev pub carries : ℤ → List Item → ℤ
carries s c = (read carried (time s) c).0

-- the time that a reading says, 0 where there is none
abbrev pub time_at : Option CarriedTime → ℤ
time_at None = pos 0
time_at (Some t) = t.0

-- the chain leads from an event back to it, meets no event of a higher level, and carries 0 to below 0
pub record Reducing (levels : List ℕ) (items chain : List Item) : Type 0 where
  pub start : ℕ
  pub leads : Leads items start chain start
  pub under : All (λ i. level levels i.to ≤ level levels start) chain
  pub falls : carries (pos 0) chain <ℤ pos 0

-- the items of these numbers, one by one; a number past the items stands for none
abbrev pub picked : List Item → List ℕ → List Item
picked items [] = []
picked items (n ∷ ns) = take 1 (drop n items) ++ picked items ns
