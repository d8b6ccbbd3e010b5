-- The codes of a path, place by place.
use Rattle.std.proofs.Common.{◌≡◌, ℕ, zero, suc, ◌+◌, ◌<◌, List, [], ◌∷◌, ◌++◌, map, length, get_or, take, drop, ap, ◌∙◌, arith}
use Rattle.std.proofs.lemmas.List.{length-drop, length-map, length-take, get_or-append-add, get_or-map}
use Rattle.search.specs.declared.item.Item.{Item as Searched}
use Rattle.loops.specs.Loops.{picked}
use Rattle.loops.specs.Walks.{Known}
use Rattle.loops.proofs.Picked.{one_at, known_rest, length-picked}

module _ (items : List Searched) where
  one : (n : ℕ) → n < length items → length (take 1 (drop n items)) ≡ 1
  one n l = omega (arith, length-take 1 (drop n items), length-drop n items)

  picked_at : (path : List ℕ) (k : ℕ) (i : Searched) → Known items path → k < length path → i ≡ get_or items (get_or path k 0) i → get_or (picked items path) k i ≡ i
  picked_at [] k i known l e = absurd (omega arith)
  picked_at (n ∷ ns) zero i known l e = ap (λ (c : List Searched). get_or (c ++ picked items ns) 0 i) (one_at items n i (known 0 n (omega arith)) e)
  picked_at (n ∷ ns) (suc k) i known l e =
      let s : suc k ≡ length (take 1 (drop n items)) + k = omega (arith, one n (known 0 n (omega arith))) in
      ap (λ (m : ℕ). get_or (picked items (n ∷ ns)) m i) s ∙ (get_or-append-add (take 1 (drop n items)) (picked items ns) k i ∙ picked_at ns k i (known_rest items n ns known) (omega arith) e)

  abbrev pub coded : List ℕ → List ℕ
  coded path = map (λ (i : Searched). i.code) (picked items path)

  pub length-coded : (path : List ℕ) → Known items path → length (coded path) ≡ length path
  length-coded path known = length-map (picked items path) (λ (i : Searched). i.code) ∙ length-picked items path known

  pub coded_at : (path : List ℕ) (k : ℕ) (i : Searched) → Known items path → k < length path → i ≡ get_or items (get_or path k 0) i → get_or (coded path) k 0 ≡ i.code
  coded_at path k i known l e = get_or-map (λ (x : Searched). x.code) (picked items path) k i 0 (omega (arith, length-picked items path known)) ∙ ap (λ (x : Searched). x.code) (picked_at path k i known l e)
