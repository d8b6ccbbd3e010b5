-- The way back from a change: each item on it begins at an event that changed a round before.
use Rattle.std.proofs.Common.{◌≡◌, ℕ, zero, suc, ◌+◌, ◌<◌, ◌≤◌, true, eqb, List, [], ◌∷◌, ◌++◌, length, get_or, take, drop, set, ℤ, is_some, Some, None, Option, sym, refl, ap, ◌∙◌, subst, inl, inr, arith}
use Rattle.std.specs.List.{Contains}
use Rattle.std.proofs.lemmas.List.Elements.{All-cons}
use Rattle.std.proofs.lemmas.List.{length-set, length-take, length_push, drop-set, take_more, same_from_push}
use Rattle.std.proofs.lemmas.Bool.{cases_lt, cases_eq, cond-false, ne_eqb}
use Rattle.search.specs.declared.item.Item.{Item}
use Rattle.search.specs.declared.values.CarriedTime.{CarriedTime}
use Rattle.search.specs.Chains.{Leads}
use Rattle.search.specs.Carried.{time, carry, carried}
use Rattle.search.specs.Rounds.{AtMost, Before, lift, Cause, Why, Last, Run}
use Rattle.search.specs.Kept.{carried_laws}
use Rattle.search.proofs.Passes.{most_refl, most_most, before_or_same, not_before, pass_acc, pass_has}
use Rattle.loops.specs.Loops.{carries, picked}
use Rattle.loops.specs.Walks.{after, Falls, Known, Walked, finish}
use Rattle.loops.proofs.Picked.{picked_cons}

module _ (items : List Item) where
  abbrev d : ℕ → ℕ → Option CarriedTime
  d = after items

  keeps : (k j : ℕ) → AtMost carried (d (suc k) j) (d k j)
  keeps k j = pass_acc carried_laws (d k) j (d k j) items

  pub keeps_on : (j k m : ℕ) → k ≤ m → AtMost carried (d m j) (d k j)
  keeps_on j k zero l = let e : k ≡ 0 = omega arith in subst (λ (n : ℕ). AtMost carried (d 0 j) (d n j)) (sym e) (most_refl carried_laws (d 0 j))
  keeps_on j k (suc m) l = elim (cases_lt m k) [
    | inl h ↦ (let e : k ≡ suc m = omega arith in subst (λ (n : ℕ). AtMost carried (d (suc m) j) (d n j)) (sym e) (most_refl carried_laws (d (suc m) j)))
    | inr h ↦ most_most carried_laws (d (suc m) j) (d m j) (d k j) (keeps m j) (keeps_on j k m h)
  ]

  pub takes : (k : ℕ) (i : Item) → Contains items i → AtMost carried (d (suc k) i.to) (lift carried i (d k i.from))
  takes k i h = pass_has carried_laws (d k) i.to (d k i.to) items i h refl

  none_before : (o p : Option CarriedTime) → o ≡ None → Before carried o p → ⊥
  none_before None None e b = b
  none_before None (Some y) e b = b
  none_before (Some x) p e b = cc

  cause_has : (k j n : ℕ) (c : Cause carried items (d k) (d (suc k)) j n) → Contains items c.item
  cause_has k j n c = (n, c.known, c.at c.item)

  -- the event where the item of a change begins
  pub turned : (k j n : ℕ) (c : Cause carried items (d k) (d (suc k)) j n) → Last carried items 0 k c.item.from
  turned zero j n c = elim (cases_eq c.item.from 0) [
    | inl e ↦ e
    | inr e ↦
        let u = c.item.from in
        let o : d 0 u ≡ None = cond-false (eqb u 0) (Some carried.first) None (ne_eqb u 0 e) in
        absurd (none_before (d 1 j) (d 0 j) (c.is ∙ ap (lift carried c.item) o) c.fell)
  ]
  turned (suc k) j n c = (c.item.begins, elim (before_or_same carried_laws (d (suc k) u) (d k u) (keeps k u)) [ inl b ↦ b | inr e ↦ absurd (late e) ])
    where
      u : ℕ
      u = c.item.from

      late : d (suc k) u ≡ d k u → ⊥
      late e =
          let i = c.item in
          let t : AtMost carried (d (suc k) j) (lift carried i (d k i.from)) = subst (λ (v : ℕ). AtMost carried (d (suc k) v) (lift carried i (d k i.from))) c.ends (takes k i (cause_has (suc k) j n c)) in
          let s : lift carried i (d k i.from) ≡ d (suc (suc k)) j = ap (lift carried i) (sym e) ∙ sym c.is in
          not_before carried_laws (d (suc (suc k)) j) (d (suc k) j) c.fell (subst (AtMost carried (d (suc k) j)) s t)

  -- a change has its item
  pub caused : (k j : ℕ) (o : Option ℕ) → Why carried items (d k) (d (suc k)) j o → Before carried (d (suc k) j) (d k j) → is_some o ≡ true
  caused k j None w b = absurd (not_before carried_laws (d (suc k) j) (d k j) b (subst (λ (o : Option CarriedTime). AtMost carried o (d (suc k) j)) w (most_refl carried_laws (d (suc k) j))))
  caused k j (Some n) w b = refl

  -- the rounds of `left` are still to be gone back through, from the last of them on, in which event `at` changed
  pub record Walking (causes left : List (List (Option ℕ))) (at : ℕ) (path : List ℕ) : Type 0 where
    pub first : left ≡ take (length left) causes
    pub walked : Walked items (length left) at path

  -- one turn: `row` has what the last round of `left` noted, and `rest` the rounds before
  module _ {causes left : List (List (Option ℕ))} {at : ℕ} {path : List ℕ} {layer : List (Option CarriedTime)} {last : ℕ} (rest : List (List (Option ℕ))) (row : List (Option ℕ))
      (run : Run carried items 0 (length causes) layer causes last) (w : Walking causes left at path) (e : left ≡ rest ++ row ∷ []) where
    abbrev k : ℕ
    k = length rest

    longer : length left ≡ suc k
    longer = omega (arith, ap length e, length_push rest row)

    inside : k < length causes
    inside = omega (arith, longer, ap length w.first, length-take (length left) causes)

    parts : (rest ≡ take k causes) × (row ≡ get_or causes k [])
    parts =
        let z : length left ≡ k + 1 = omega (arith, longer) in
        same_from_push rest (take k causes) row (get_or causes k []) (sym e ∙ (w.first ∙ (ap (λ (n : ℕ). take n causes) z ∙ take_more causes k [] inside)))

    here : Walked items (suc k) at path
    here = subst (λ (n : ℕ). Walked items n at path) longer w.walked

    why : Why carried items (d k) (d (suc k)) at (get_or row at None)
    why = subst (λ (r : List (Option ℕ)). Why carried items (d k) (d (suc k)) at (get_or r at None)) (sym parts.1) (run.why k inside at)

    -- the round has noted an item for the event
    pub walk_some : is_some (get_or row at None) ≡ true
    walk_some = caused k at (get_or row at None) why here.last.1

    cause : (n : ℕ) → get_or row at None ≡ Some n → Cause carried items (d k) (d (suc k)) at n
    cause n o = subst (Why carried items (d k) (d (suc k)) at) o why

    pub walk_next : {n place : ℕ} {i : Item} → get_or row at None ≡ Some n → i ≡ get_or items n i → k ≡ place → Walking causes rest i.from (set path place n)
    walk_next {n} {place} {i} o is here_is = subst (λ (m : ℕ). Walking causes rest i.from (set path m n)) here_is (record { first = parts.0; walked = next (cause n o) })
      where
        next : Cause carried items (d k) (d (suc k)) at n → Walked items k i.from (set path k n)
        next c =
            let l = here.low in
            let s : c.item ≡ i = sym (c.at i) ∙ sym is in
            let z : k + 1 ≡ suc k = omega arith in
            let q : drop k (set path k n) ≡ n ∷ drop (suc k) path = drop-set path k n (omega arith) ∙ ap (λ (m : ℕ). n ∷ drop m path) z in
            let r : picked items (n ∷ drop (suc k) path) ≡ i ∷ picked items (drop (suc k) path) = picked_cons items n i (drop (suc k) path) c.known is in
            let to : i.to ≡ at = ap (λ (x : Item). x.to) (sym s) ∙ c.ends in
            let from : c.item.from ≡ i.from = ap (λ (x : Item). x.from) s in
            let got : d (suc k) at ≡ lift carried i (d k i.from) = c.is ∙ ap (λ (x : Item). lift carried x (d k x.from)) s in
            record {
              low = omega (arith, length-set path k n);
              last = subst (Last carried items 0 k) from (turned k at n c);
              known = subst (Known items) (sym q) (All-cons (λ (m : ℕ). m < length items) n (drop (suc k) path) c.known here.known);
              falls = subst (λ (ns : List ℕ). Falls items k i.from (picked items ns)) (sym q) (subst (Falls items k i.from) (sym r) (
                subst (Contains items) s (cause_has k at n c),
                refl,
                subst (λ (v : ℕ). d (suc k) v ≡ lift carried i (d k i.from)) (sym to) got,
                subst (λ (v : ℕ). Before carried (d (suc k) v) (d k v)) (sym to) c.fell,
                subst (λ (v : ℕ). Falls items (suc k) v (picked items (drop (suc k) path))) (sym to) here.falls,
              ));
            }

  -- ---- what a falling chain says of its first items

  pub falls_leads : (k u : ℕ) (c : List Item) → Falls items k u c → Leads items u c (finish u c)
  falls_leads k u [] f = refl
  falls_leads k u (i ∷ c) f = (f.0, f.1, falls_leads (suc k) i.to c f.4)

  pub falls_take : (k u n : ℕ) (c : List Item) → Falls items k u c → Falls items k u (take n c)
  falls_take k u zero c f = tt
  falls_take k u (suc n) [] f = tt
  falls_take k u (suc n) (i ∷ c) f = (f.0, f.1, f.2, f.3, falls_take (suc k) i.to n c f.4)

  -- m items on, after round q
  pub falls_reads : (k u : ℕ) (c : List Item) (s : ℤ) (m q : ℕ) → k + m ≡ q → m ≤ length c → d k u ≡ Some (time s) → Falls items k u c → d q (finish u (take m c)) ≡ Some (time (carries s (take m c)))
  falls_reads k u c s zero q e l h f = let z : k ≡ q = omega arith in subst (λ (n : ℕ). d n u ≡ Some (time s)) z h
  falls_reads k u [] s (suc m) q e l h f = absurd (omega arith)
  falls_reads k u (i ∷ c) s (suc m) q e l h f = falls_reads (suc k) i.to c (carry i s) m q (omega arith) (omega arith) (f.2 ∙ ap (lift carried i) h) f.4

  pub falls_before : (k u : ℕ) (c : List Item) (m q : ℕ) → k + m ≡ suc q → 0 < m → m ≤ length c → Falls items k u c → Before carried (d (suc q) (finish u (take m c))) (d q (finish u (take m c)))
  falls_before k u c zero q e s l f = absurd (omega arith)
  falls_before k u [] (suc m) q e s l f = absurd (omega arith)
  falls_before k u (i ∷ c) (suc zero) q e s l f = let z : k ≡ q = omega arith in subst (λ (n : ℕ). Before carried (d (suc n) i.to) (d n i.to)) z f.3
  falls_before k u (i ∷ c) (suc (suc m)) q e s l f = falls_before (suc k) i.to c (suc m) q (omega arith) (omega arith) (omega arith) f.4
