-- A kind of reading: which of two comes strictly first, how an item carries one on, and where a chain begins.
use Rattle.std.specs.Prelude.{◌≡◌, ℕ, ◌+◌, ◌<◌, Bool, true, false}
use Rattle.search.specs.Limits.{most_rounds}
use Rattle.search.specs.declared.item.Item.{Item}

pub record Kind (V : Type 0) : Type 0 where
  pub before : V → V → Bool
  pub stepped : Item → V → V
  pub first : V

-- u comes no later than v
abbrev pub Le : {V : Type 0} → Kind V → V → V → Type 0
Le kind u v = kind.before v u ≡ false

-- the order is total, a step keeps it, and `reached k` holds of what k steps read
pub record Laws {V : Type 0} (kind : Kind V) (reached : ℕ → V → Type 0) : Type 0 where
  pub same : (v : V) → Le kind v v
  pub trans : (u v w : V) → Le kind u v → Le kind v w → Le kind u w
  pub antisym : (u v : V) → Le kind u v → Le kind v u → u ≡ v
  pub strict : (u v : V) → kind.before u v ≡ true → Le kind u v
  pub monotone : (i : Item) (u v : V) → Le kind u v → Le kind (kind.stepped i u) (kind.stepped i v)
  pub starts : reached 0 kind.first
  pub goes : (k : ℕ) (i : Item) (v : V) → reached k v → k < most_rounds → reached (k + 1) (kind.stepped i v)
