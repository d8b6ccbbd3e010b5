-- The first items of a path that lead back to where it begins.
use Rattle.std.proofs.Common.{◌≡◌, ℕ, ◌+◌, ◌-◌, ◌<◌, ◌≤◌, List, [], ◌∷◌, ◌++◌, length, get_or, take, drop, slice_range, sym, refl, ap, ◌∙◌, subst, inl, inr, arith}
use Rattle.std.specs.List.{Contains, All}
use Rattle.std.proofs.lemmas.List.Elements.{All-push, All-drop, All-get_or, Contains-get_or}
use Rattle.std.proofs.lemmas.List.{get_or_default, take_rest, drop_more, length-drop}
use Rattle.search.specs.declared.item.Item.{Item}
use Rattle.loops.specs.Levels.{level, Ordered}
use Rattle.loops.specs.Loops.{picked}
use Rattle.loops.specs.Walks.{Known, start_of, finish, Closes, Closed, Scanned, Found}
use Rattle.loops.proofs.Picked.{picked_cons, picked-take, picked_more, length-picked}

finish_push : (u : ℕ) (c : List Item) (i : Item) → finish u (c ++ i ∷ []) ≡ i.to
finish_push u [] i = refl
finish_push u (x ∷ c) i = finish_push x.to c i

module _ (items : List Item) (ns : List ℕ) (place : ℕ) (d : Item) (known : Known items ns) (h : place < length ns) where
  -- the item at `place`
  abbrev at : Item
  at = get_or items (get_or ns place 0) d

  number : get_or ns place 0 < length items
  number = All-get_or (λ (n : ℕ). n < length items) ns place 0 h known

  is : at ≡ get_or items (get_or ns place 0) at
  is = get_or_default items (get_or ns place 0) d at number

  -- leads from and to events that have a level
  pub events_at : {levels : List ℕ} → Ordered levels items → (at.from < length levels) × (at.to < length levels)
  events_at {levels} o =
      let has : Contains items at = subst (Contains items) (sym is) (Contains-get_or items (get_or ns place 0) at number) in
      (o.begins at has, o.ends at has)

  -- x is the event f, where the path begins
  module _ {levels : List ℕ} {x f : ℕ} (e : x ≡ f) (s : Scanned levels items ns x place) where
    abbrev Under : Item → Type 0
    Under j = level levels j.to ≤ level levels x

    left : Closes levels x (picked items ns) → Closes levels x (at ∷ picked items (drop (place + 1) ns))
    left k =
        let c : picked items (drop place ns) ≡ at ∷ picked items (drop (place + 1) ns) = ap (picked items) (drop_more ns place 0 h) ∙ picked_cons items (get_or ns place 0) at (drop (place + 1) ns) number is in
        subst (Closes levels x) c (s.rest k)

    -- it leads neither back nor too high
    pub scanned_more : (at.to ≡ f → ⊥) → level levels at.to ≤ level levels f → Scanned levels items ns x (place + 1)
    scanned_more n l = record {
      under = subst (All Under) (sym (picked_more items ns place at h known is)) (All-push Under (picked items (take place ns)) at s.under (rw e l));
      rest = λ k. elim (left k) [ inl z ↦ absurd (n (sym z ∙ e)) | inr t ↦ t.1 ];
    }

    -- it leads back
    pub scanned_hit : at.to ≡ f → Closed levels x (picked items ns) (place + 1)
    scanned_hit z =
        let t : take (place + 1) (picked items ns) ≡ picked items (take place ns) ++ at ∷ [] = picked-take items (place + 1) ns known ∙ picked_more items ns place at h known is in
        let back : at.to ≡ x = z ∙ sym e in
        let low : Under at = subst (λ (v : ℕ). level levels v ≤ level levels x) (sym back) (omega arith) in
        record {
          some = omega arith;
          within = omega (arith, length-picked items ns known);
          ends = ap (finish x) t ∙ (finish_push x (picked items (take place ns)) at ∙ back);
          under = subst (All Under) (sym t) (All-push Under (picked items (take place ns)) at s.under low);
        }

-- ---- the search for a loop

module _ (items : List Item) (path : List ℕ) (first : ℕ) where
  -- what `&path[first..]` has
  abbrev rest : List Item
  rest = picked items (slice_range path first (length path))

  rest_known : Known items path → Known items (slice_range path first (length path))
  rest_known k = subst (Known items) (sym (take_rest path first)) (All-drop (λ (n : ℕ). n < length items) first path k)

  pub found_at : {levels : List ℕ} {n : ℕ} → first < length path → Known items path → Closed levels (start_of rest) rest n → Found levels items path first (first + n)
  found_at {levels} {n} h k c =
      let w = c.within in
      let z : n ≡ (first + n) - first = omega arith in record {
        inside = (omega arith, omega (arith, length-picked items (slice_range path first (length path)) (rest_known k), ap length (take_rest path first), length-drop first path));
        closed = subst (Closed levels (start_of (picked items (drop first path))) (picked items (drop first path))) z
            (subst (λ (ns : List ℕ). Closed levels (start_of (picked items ns)) (picked items ns) n) (take_rest path first) c);
      }
