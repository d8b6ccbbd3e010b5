-- A path as long as there is room has a loop on it, and that loop is reducing.
use Rattle.std.proofs.Common.{◌≡◌, ℕ, zero, suc, ◌+◌, ◌-◌, ◌<◌, ◌≤◌, List, [], ◌∷◌, length, take, drop, slice_range, ℤ, pos, ◌<ℤ◌, Some, Option, sym, refl, ap, ◌∙◌, subst, inl, inr, arith}
use Rattle.std.specs.List.{All}
use Rattle.std.proofs.lemmas.List.Elements.{All-nil, All-cons, All-drop}
use Rattle.std.proofs.lemmas.Int.{ints}
use Rattle.search.specs.declared.item.Item.{Item}
use Rattle.search.specs.declared.values.CarriedTime.{CarriedTime}
use Rattle.search.specs.Floor.{Multiple}
use Rattle.search.specs.Chains.{Leads}
use Rattle.search.specs.Carried.{time, carry, carried}
use Rattle.search.specs.Rounds.{Before, lift}
use Rattle.search.specs.Kept.{carried_laws}
use Rattle.search.proofs.Passes.{before_most}
use Rattle.loops.specs.Levels.{level, room, Ordered, Periods, Steps}
use Rattle.loops.specs.Loops.{carries, Reducing, picked}
use Rattle.loops.specs.Walks.{after, Falls, Path, start_of, finish, Closes, ClosesAt, Found}
use Rattle.loops.proofs.Pigeon.{Again, Crowded, crowded}
use Rattle.loops.proofs.Readings.{carry_lands, multiple_zero, loop_shift}
use Rattle.loops.proofs.Traces.{keeps_on, falls_leads, falls_take, falls_reads, falls_before}
use Rattle.loops.proofs.Picked.{length-picked, picked-drop, picked-take}

-- the events that a chain from u passes, u first
abbrev nodes : ℕ → List Item → List ℕ
nodes u [] = u ∷ []
nodes u (i ∷ c) = u ∷ nodes i.to c

length_nodes : (u : ℕ) (c : List Item) → length (nodes u c) ≡ suc (length c)
length_nodes u [] = refl
length_nodes u (i ∷ c) = ap suc (length_nodes i.to c)

again_closes : (levels : List ℕ) (x : ℕ) (i : Item) (c : List Item) → Again (level levels) x (nodes i.to c) → Closes levels x (i ∷ c)
again_closes levels x i [] (inl e) = inl e
again_closes levels x i [] (inr t) = absurd t.1
again_closes levels x i (j ∷ c) (inl e) = inl e
again_closes levels x i (j ∷ c) (inr t) = inr (t.0, again_closes levels x j c t.1)

crowded_closes : (levels : List ℕ) (items : List Item) (u w : ℕ) (c : List Item) → Leads items u c w → Crowded (level levels) (nodes u c) → (s : ℕ) × (s < length c) × Closes levels (start_of (drop s c)) (drop s c)
crowded_closes levels items u w [] l (inl b) = absurd b
crowded_closes levels items u w [] l (inr b) = absurd b
crowded_closes levels items u w (i ∷ c) l (inl a) = (0, omega arith, again_closes levels i.from i c (subst (λ (v : ℕ). Again (level levels) v (nodes i.to c)) (sym l.1) a))
crowded_closes levels items u w (i ∷ c) l (inr b) = let t = crowded_closes levels items i.to w c l.2 b in (suc t.0, omega (arith, t.1), t.2)

module _ (levels : List ℕ) (items : List Item) (o : Ordered levels items) where
  abbrev Inside : ℕ → Type 0
  Inside v = v < length levels

  inside : (u w : ℕ) (c : List Item) → u < length levels → Leads items u c w → All Inside (nodes u c)
  inside u w [] b l = All-cons Inside u [] b (All-nil Inside)
  inside u w (i ∷ c) b l = All-cons Inside u (nodes i.to c) b (inside i.to w c (o.ends i l.0) l.2)

  -- `nodes` with its first event in sight
  chain_crowded : (c : List Item) → Leads items 0 c (finish 0 c) → room levels ≤ length c → Crowded (level levels) (nodes 0 c)
  chain_crowded [] l h = crowded levels o.top 0 [] refl (inside 0 0 [] o.some refl) (omega arith)
  chain_crowded (i ∷ c) l h = crowded levels o.top 0 (nodes i.to c) refl (inside 0 (finish 0 (i ∷ c)) (i ∷ c) o.some l) (omega (arith, length_nodes i.to c))

  pub path_closes : (path : List ℕ) → Path items path → room levels ≤ length path → (s : ℕ) × (s < length path) × ClosesAt levels items path s
  path_closes path p h =
      let c = picked items path in
      let n = length-picked items path p.known in
      let l = falls_leads items 0 0 c p.falls in
      let t = crowded_closes levels items 0 (finish 0 c) c l (chain_crowded c l (omega arith)) in
      (t.0, omega (arith, t.1), subst (λ (k : List Item). Closes levels (start_of k) k) (picked-drop items t.0 path p.known) t.2)

  module _ (period : ℕ → ℤ) (p : Periods period) (steps : Steps period levels items) where
    abbrev d : ℕ → ℕ → Option CarriedTime
    d = after items

    abbrev On : ℕ → ℤ → Type 0
    On v t = Multiple (period (level levels v)) t

    -- a chain that falls at each item, and comes back to where it began, has lost something
    loop_falls : (k q u : ℕ) (t : ℤ) (c : List Item) (n : ℕ) → k + n ≡ suc q → 0 < n → n ≤ length c → Falls items k u c → d k u ≡ Some (time t) → On u t → finish u (take n c) ≡ u → All (λ i. level levels i.to ≤ level levels u) (take n c) →
        carries (pos 0) (take n c) <ℤ pos 0
    loop_falls k q u t c n l some w g h o e a =
        let loop : List Item = take n c in
        let is : d (suc q) u ≡ Some (time (carries t loop)) = rw e at (falls_reads items k u c t n (suc q) l w h g) in
        let b : Before carried (d (suc q) u) (d q u) = rw e at (falls_before items k u c n q l some w g) in
        let f : Before carried (d (suc q) u) (d k u) = before_most carried_laws (d (suc q) u) (d q u) (d k u) b (keeps_on items u k q (omega arith)) in
        let r : Before carried (Some (time (carries t loop))) (Some (time t)) = rw (is, h) at f in
        let leads : Leads items u loop u = rw e at (falls_leads items k u loop (falls_take items k u n c g)) in
        let s = loop_shift period p levels items steps u loop leads a t o in
        omega (arith, ints)

    -- where the path passes
    record Spot (q : ℕ) (c : List Item) : Type 0 where
      at : ℤ
      is : d q (start_of c) ≡ Some (time at)
      on : On (start_of c) at
      falls : Falls items q (start_of c) c

    spot : (k u : ℕ) (t : ℤ) (c : List Item) (s q : ℕ) → k + s ≡ q → s < length c → Falls items k u c → d k u ≡ Some (time t) → On u t → Spot q (drop s c)
    spot k u t [] s q e l g h o = absurd (omega arith)
    spot k u t (i ∷ c) zero q e l g h o =
        let z : k ≡ q = omega arith in
        subst (λ (n : ℕ). Spot n (i ∷ c)) z (record { at = t; is = rw g.1 h; on = rw g.1 o; falls = (g.0, refl, g.2 ∙ ap (λ (x : ℕ). lift carried i (d k x)) (sym g.1), g.3, g.4) })
    spot k u t (i ∷ c) (suc s) q e l g h o =
        spot (suc k) i.to (carry i t) c s q (omega arith) (omega arith) g.4 (g.2 ∙ ap (lift carried i) h) (carry_lands period p levels items steps i g.0 t)

    pub reduces : (path : List ℕ) → Path items path → (first e : ℕ) → Found levels items path first e → Reducing levels items (picked items (slice_range path first e))
    reduces path pa first e f =
        subst (Reducing levels items) (picked-take items count (drop first path) (All-drop (λ (n : ℕ). n < length items) first path pa.known))
        (record { start = x; leads = leads; under = f.closed.under; falls = falls })
      where
        count : ℕ
        count = e - first

        c : List Item
        c = picked items (drop first path)

        x : ℕ
        x = start_of c

        here : Spot first c
        here =
            let n = length-picked items path pa.known in
            let k = f.closed.some in
            let i = f.inside in
            subst (Spot first) (picked-drop items first path pa.known)
            (spot 0 0 (pos 0) (picked items path) first first (omega arith) (omega arith) pa.falls refl (multiple_zero (period (level levels 0))))

        leads : Leads items x (take count c) x
        leads = subst (Leads items x (take count c)) f.closed.ends
            (falls_leads items first x (take count c) (falls_take items first x count c here.falls))

        falls : carries (pos 0) (take count c) <ℤ pos 0
        falls =
            let k = f.closed.some in
            loop_falls first (first + count - 1) x here.at c count (omega arith) k f.closed.within here.falls here.is here.on f.closed.ends f.closed.under
