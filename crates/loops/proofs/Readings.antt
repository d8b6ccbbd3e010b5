-- What chains carry times to, where each item steps down to the period of its event's level.
use Rattle.std.proofs.Common.{◌≡◌, ℕ, zero, suc, ◌*◌, ◌≤◌, List, [], ◌∷◌, ℤ, pos, ◌+ℤ◌, ◌*ℤ◌, ◌≤ℤ◌, sym, refl, ap, ◌∙◌, subst, inl, inr, arith}
use borrow.Author.Differences.{up, down, product_is}
use Rattle.std.specs.List.{Contains, All}
use Rattle.std.proofs.lemmas.List.Elements.{All-tail}
use Rattle.std.proofs.lemmas.Int.{ints}
use Rattle.std.proofs.lemmas.Bool.{cases_lt}
use Rattle.search.specs.declared.item.Item.{Item}
use Rattle.search.specs.Floor.{Multiple, floor, FloorFacts}
use Rattle.search.specs.Chains.{Leads}
use Rattle.search.specs.Carried.{carry}
use Rattle.search.specs.Floors.{floor_facts}
use Rattle.loops.specs.Levels.{level, Periods, Steps, Keeps}
use Rattle.loops.specs.Loops.{carries, Reducing}

times_assoc : (q m a : ℤ) → q *ℤ (m *ℤ a) ≡ (q *ℤ m) *ℤ a
times_assoc q m a =
    let u = product_is q m in
    let v = product_is m a in
    omega (arith, ints, ap (λ (n : ℕ). n * up a) u.0, ap (λ (n : ℕ). n * down a) u.0, ap (λ (n : ℕ). n * up a) u.1, ap (λ (n : ℕ). n * down a) u.1, ap (λ (n : ℕ). up q * n) v.0, ap (λ (n : ℕ). down q * n) v.0, ap (λ (n : ℕ). up q * n) v.1, ap (λ (n : ℕ). down q * n) v.1)

-- a multiple of a multiple
pub multiple_of : (a b g : ℤ) → Multiple a b → Multiple b g → Multiple a g
multiple_of a b g (m, e) (q, f) = (q *ℤ m, f ∙ (ap (λ (z : ℤ). q *ℤ z) e ∙ times_assoc q m a))

pub multiple_zero : (a : ℤ) → Multiple a (pos 0)
multiple_zero a = (pos 0, omega (arith, ints))

module _ (period : ℕ → ℤ) (p : Periods period) where
  pub facts : (k : ℕ) → FloorFacts (period k)
  facts k = floor_facts (period k) (p.positive k)

  -- what lies on the clock of a level lies on those below
  pub multiple_below : (j k : ℕ) (g : ℤ) → j ≤ k → Multiple (period k) g → Multiple (period j) g
  multiple_below j zero g l m = let e : j ≡ 0 = omega arith in subst (λ (n : ℕ). Multiple (period n) g) (sym e) m
  multiple_below j (suc k) g l m = elim (cases_lt k j) [
    | inl b ↦ (let e : j ≡ suc k = omega arith in subst (λ (n : ℕ). Multiple (period n) g) (sym e) m)
    | inr b ↦ multiple_below j k g b (multiple_of (period k) (period (suc k)) g (p.nested k) m)
  ]

  -- the step down moves along with a multiple of a higher level's period
  floor_along : (j k : ℕ) (x g : ℤ) → j ≤ k → Multiple (period k) g → floor (period j) (x +ℤ g) ≡ floor (period j) x +ℤ g
  floor_along j k x g l m =
      let n = multiple_below j k g l m in
      ap (λ (z : ℤ). floor (period j) (x +ℤ z)) n.1 ∙ ((facts j).moves_along x n.0 ∙ ap (λ (z : ℤ). floor (period j) x +ℤ z) (sym n.1))

  module _ (levels : List ℕ) (items : List Item) (steps : Steps period levels items) where
    -- an item carries onto the clock of the event where it leads
    pub carry_lands : (i : Item) → Contains items i → (s : ℤ) → Multiple (period (level levels i.to)) (carry i s)
    carry_lands i h s = subst (Multiple (period (level levels i.to))) (sym (steps i h s)) ((facts (level levels i.to)).lands (s +ℤ i.weight))

    -- a chain that meets nothing above level k moves along with a multiple of that level's period
    pub shift : (k u w : ℕ) (c : List Item) → Leads items u c w → All (λ i. level levels i.to ≤ k) c → (s g : ℤ) → Multiple (period k) g → carries (s +ℤ g) c ≡ carries s c +ℤ g
    shift k u w [] l a s g m = refl
    shift k u w (i ∷ c) l a s g m =
        let q = period (level levels i.to) in
        let e : (s +ℤ g) +ℤ i.weight ≡ (s +ℤ i.weight) +ℤ g = omega (arith, ints) in
        let h : carry i (s +ℤ g) ≡ carry i s +ℤ g = steps i l.0 (s +ℤ g) ∙ (ap (floor q) e ∙ (floor_along (level levels i.to) k (s +ℤ i.weight) g (a 0 i (omega arith)) m ∙ ap (λ (z : ℤ). z +ℤ g) (sym (steps i l.0 s)))) in
        ap (λ (z : ℤ). carries z c) h ∙ shift k i.to w c l.2 (All-tail (λ (j : Item). level levels j.to ≤ k) i c a) (carry i s) g m

    -- times that keep the items come no later than any chain carries them
    pub bounds : (x : ℕ → ℤ) → Keeps period levels items x → (u w : ℕ) (c : List Item) → Leads items u c w → (s : ℤ) → x u ≤ℤ s → x w ≤ℤ carries s c
    bounds x t u w [] l s h = subst (λ (v : ℕ). x v ≤ℤ s) l h
    bounds x t u w (i ∷ c) l s h =
        let f = facts (level levels i.to) in
        let b : x i.from ≤ℤ s = subst (λ (v : ℕ). x v ≤ℤ s) (sym l.1) h in
        let k = t.kept i l.0 in
        let g : x i.to ≤ℤ (s +ℤ i.weight) = omega (arith, ints) in
        let on = f.leaves (x i.to) (t.on_clock i.to) in
        let m : x i.to ≤ℤ floor (period (level levels i.to)) (s +ℤ i.weight) = subst (λ (z : ℤ). z ≤ℤ floor (period (level levels i.to)) (s +ℤ i.weight)) on (f.keeps_order (x i.to) (s +ℤ i.weight) g) in
        bounds x t i.to w c l.2 (carry i s) (subst (λ (z : ℤ). x i.to ≤ℤ z) (sym (steps i l.0 s)) m)

    -- a chain from an event back to it, that meets nothing of a higher level, carries every time of that level alike
    pub loop_shift : (u : ℕ) (c : List Item) → Leads items u c u → All (λ i. level levels i.to ≤ level levels u) c → (s : ℤ) → Multiple (period (level levels u)) s → carries s c ≡ carries (pos 0) c +ℤ s
    loop_shift u c l a s m = ap (λ (z : ℤ). carries z c) (omega (arith, ints)) ∙ shift (level levels u) u u c l a (pos 0) s m

    -- no times keep a reducing loop
    pub excludes : (chain : List Item) → Reducing levels items chain → (x : ℕ → ℤ) → Keeps period levels items x → ⊥
    excludes chain r x t =
        let v = r.start in
        let b = bounds x t v v chain r.leads (x v) (omega (arith, ints)) in
        let e = loop_shift v chain r.leads r.under (x v) (t.on_clock v) in
        let f = r.falls in
        omega (arith, ints)
