-- Where a round changes nothing, the times that it leaves keep the items, and come no sooner than any others that do.
use Rattle.std.proofs.Common.{◌≡◌, ℕ, ◌<◌, ◌≤◌, List, [], ◌∷◌, length, get_or, ℤ, pos, ◌+ℤ◌, ◌-ℤ◌, ◌≤ℤ◌, ◌<ℤ◌, Some, None, Option, sym, refl, ap, ◌∙◌, subst, arith}
use Rattle.std.specs.List.{Contains}
use Rattle.std.proofs.lemmas.Int.{ints, by_lt_z}
use Rattle.search.specs.declared.item.Item.{Item}
use Rattle.search.specs.declared.values.CarriedTime.{CarriedTime}
use Rattle.search.specs.Floor.{Multiple}
use Rattle.search.specs.Chains.{Leads, Reads}
use Rattle.search.specs.Carried.{time, carry, carried}
use Rattle.search.specs.Rounds.{AtMost, lift, Still}
use Rattle.search.specs.Kept.{carried_laws}
use Rattle.search.proofs.Layers.{best-least, least_has}
use Rattle.loops.specs.Levels.{level, Ordered, Periods, Steps, Keeps}
use Rattle.loops.specs.Loops.{carries, time_at}
use Rattle.loops.specs.Walks.{after}
use Rattle.loops.proofs.Readings.{facts, carry_lands, multiple_zero, bounds, excludes}
use Rattle.loops.proofs.Traces.{keeps_on, takes}

at_most_some : (o : Option CarriedTime) (s : ℤ) → AtMost carried o (Some (time s)) → (t : ℤ) × (o ≡ Some (time t)) × (t ≤ℤ s)
at_most_some None s a = absurd a
at_most_some (Some t) s a = let h : t.0 ≤ℤ s = omega (arith, ints) in (t.0, refl, h)

module _ (levels : List ℕ) (items : List Item) (o : Ordered levels items) where
  abbrev d : ℕ → ℕ → Option CarriedTime
  d = after items

  reads : (k v : ℕ) (t : ℤ) → d k v ≡ Some (time t) → Reads carried items 0 k v (time t)
  reads k v t e = least_has carried_laws (Reads carried items 0 k v) (d k v) (time t) (best-least carried_laws items 0 k v) e

  leads_inside : (u w : ℕ) (c : List Item) → u < length levels → Leads items u c w → w < length levels
  leads_inside u w [] b l = subst (λ (v : ℕ). v < length levels) l b
  leads_inside u w (i ∷ c) b l = leads_inside i.to w c (o.ends i l.0) l.2

  -- no chain leads past the events
  pub beyond : (k v : ℕ) → length levels ≤ v → d k v ≡ None
  beyond k v l = go (d k v) refl
    where
      go : (q : Option CarriedTime) → d k v ≡ q → d k v ≡ None
      go None e = e
      go (Some t) e = let r = reads k v t.0 e in absurd (omega (arith, leads_inside 0 v r.chain o.some r.leads))

  module _ (period : ℕ → ℤ) (p : Periods period) (steps : Steps period levels items) where
    abbrev On : ℕ → ℤ → Type 0
    On v t = Multiple (period (level levels v)) t

    lands : (u w : ℕ) (c : List Item) (s : ℤ) → Leads items u c w → On u s → On w (carries s c)
    lands u w [] s l m = subst (λ (v : ℕ). On v s) l m
    lands u w (i ∷ c) s l m = lands i.to w c (carry i s) l.2 (carry_lands period p levels items steps i l.0 s)

    on_clock : (k v : ℕ) → On v (time_at (d k v))
    on_clock k v = go (d k v) refl
      where
        go : (q : Option CarriedTime) → d k v ≡ q → On v (time_at q)
        go None e = multiple_zero (period (level levels v))
        go (Some t) e =
            let r = reads k v t.0 e in
            subst (On v) (ap (λ (z : CarriedTime). z.0) r.is) (lands 0 v r.chain (pos 0) r.leads (multiple_zero (period (level levels 0))))

    -- no times that keep the items are later than a reading
    pub latest : (y : ℕ → ℤ) → Keeps period levels items y → y 0 ≡ pos 0 → (k v : ℕ) (t : ℤ) → d k v ≡ Some (time t) → y v ≤ℤ t
    latest y w e k v t h =
        let r = reads k v t h in
        subst (λ (z : ℤ). y v ≤ℤ z) (ap (λ (z : CarriedTime). z.0) r.is) (bounds period p levels items steps y w 0 v r.chain r.leads (pos 0) (omega (arith, ints)))

    module _ (k : ℕ) (still : Still carried items 0 k) where
      opening : (t : ℤ) × (d k 0 ≡ Some (time t)) × (t ≤ℤ pos 0)
      opening = at_most_some (d k 0) (pos 0) (keeps_on items 0 0 k (omega arith))

      closed : (i : Item) → Contains items i → AtMost carried (d k i.to) (lift carried i (d k i.from))
      closed i h = subst (λ (q : Option CarriedTime). AtMost carried q (lift carried i (d k i.from))) (still i.to) (takes items k i h)

      -- where an item leads from a time on, there is a time
      led : (i : Item) → Contains items i → (s : ℤ) → d k i.from ≡ Some (time s) → (t : ℤ) × (d k i.to ≡ Some (time t)) × (t ≤ℤ carry i s)
      led i h s e = at_most_some (d k i.to) (carry i s) (subst (λ (q : Option CarriedTime). AtMost carried (d k i.to) (lift carried i q)) e (closed i h))

      pub opening_has : (t : ℤ) × (d k 0 ≡ Some (time t))
      opening_has = (opening.0, opening.1)

      pub led_has : (i : Item) → Contains items i → i.from ≡ 0 → (t : ℤ) × (d k i.to ≡ Some (time t))
      led_has i h e = let t = led i h opening.0 (ap (d k) e ∙ opening.1) in (t.0, t.1)

      module _ (all : (v : ℕ) → v < length levels → (t : ℤ) × (d k v ≡ Some (time t))) where
        kept : (i : Item) → Contains items i → (time_at (d k i.to) -ℤ time_at (d k i.from)) ≤ℤ i.weight
        kept i h =
            let a = all i.from (o.begins i h) in
            let b = led i h a.0 a.1 in
            let e = steps i h a.0 in
            let f = (facts period p (level levels i.to)).never_raises (a.0 +ℤ i.weight) in
            let g = b.2 in
            let x = ap time_at a.1 in
            let y = ap time_at b.1 in
            omega (arith, ints)

        pub settled_keeps : Keeps period levels items (λ v. time_at (d k v))
        settled_keeps = record { on_clock = on_clock k; kept = kept }

        not_below : opening.0 <ℤ pos 0 → ⊥
        not_below l =
            let r = reads k 0 opening.0 opening.1 in
            excludes period p levels items steps r.chain
            (record { start = 0; leads = r.leads; under = λ k d _. o.top (get_or r.chain k d).to; falls = subst (λ (z : CarriedTime). z.0 <ℤ pos 0) (sym r.is) l }) (λ v. time_at (d k v)) settled_keeps

        pub settled_opens : time_at (d k 0) ≡ pos 0
        settled_opens = ap time_at opening.1 ∙ by_lt_z opening.0 (pos 0) (λ l. absurd (not_below l)) (λ g. let h = opening.2 in omega (arith, ints))
