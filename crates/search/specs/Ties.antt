-- The kinds that say how two events are tied: how many gaps a chain has, and whether one of them leads to a frame
-- event. Both are read over items that are gaps.
use Rattle.std.specs.Prelude.{ℕ, ◌+◌, ◌≤◌, Bool, false, not, ◌&&◌, ◌||◌, nat_lt}
use Rattle.search.specs.Kinds.{Kind}
use Rattle.search.specs.declared.values.GapCount.{GapCount}
use Rattle.search.specs.declared.values.Framed.{Framed}

abbrev pub gaps : ℕ → GapCount
gaps n = record { 0 = n }

-- gap count: each gap adds 1
abbrev pub counted : Kind GapCount
counted = record { before = λ a b. nat_lt a.0 b.0; stepped = λ i v. gaps (v.0 + 1); first = gaps 0 }

abbrev pub FewGaps : ℕ → GapCount → Type 0
FewGaps k v = v.0 ≤ k

abbrev pub framed : Bool → Framed
framed b = record { 0 = b }

-- framed: no at first, yes from a gap on that leads to a frame event; yes comes before no
abbrev pub framing : Kind Framed
framing = record { before = λ a b. a.0 && not b.0; stepped = λ i v. framed (i.framed || v.0); first = framed false }

abbrev pub EitherWay : ℕ → Framed → Type 0
EitherWay k v = Unit {0}
