-- The items of a list of numbers.
use Rattle.std.proofs.Common.{◌≡◌, ℕ, zero, suc, ◌+◌, ◌<◌, List, [], ◌∷◌, ◌++◌, length, get_or, take, drop, sym, refl, ap, ◌∙◌, append_assoc, arith}
use Rattle.std.proofs.lemmas.List.{drop_more, get_or_default, take_more}
use Rattle.std.proofs.lemmas.List.Elements.{All-tail, All-get_or}
use Rattle.search.specs.declared.item.Item.{Item}
use Rattle.loops.specs.Loops.{picked}
use Rattle.loops.specs.Walks.{Known}

-- the item of number n by itself
pub one_at : (items : List Item) (n : ℕ) (i : Item) → n < length items → i ≡ get_or items n i → take 1 (drop n items) ≡ i ∷ []
one_at items n i l e = rw (drop_more items n i l) (ap (λ (y : Item). y ∷ []) (sym e))

nth : (items : List Item) (n : ℕ) → n < length items → (i : Item) × (i ≡ get_or items n i)
nth [] n l = absurd (omega arith)
nth (x ∷ xs) n l = (get_or (x ∷ xs) n x, get_or_default (x ∷ xs) n x (get_or (x ∷ xs) n x) l)

module _ (items : List Item) where
  pub picked_cons : (n : ℕ) (i : Item) (ns : List ℕ) → n < length items → i ≡ get_or items n i → picked items (n ∷ ns) ≡ i ∷ picked items ns
  picked_cons n i ns l e = ap (λ (c : List Item). c ++ picked items ns) (one_at items n i l e)

  -- the item of the first number stands first, whatever numbers follow
  front : (n : ℕ) → n < length items → (i : Item) × ((ns : List ℕ) → picked items (n ∷ ns) ≡ i ∷ picked items ns)
  front n l = let t = nth items n l in (t.0, λ ns. picked_cons n t.0 ns l t.1)

  -- the numbers after the first
  pub known_rest : (n : ℕ) (ns : List ℕ) → Known items (n ∷ ns) → Known items ns
  known_rest n ns k = All-tail (λ (m : ℕ). m < length items) n ns k

  pub length-picked : (ns : List ℕ) → Known items ns → length (picked items ns) ≡ length ns
  length-picked [] k = refl
  length-picked (n ∷ ns) k = let t = front n (k 0 n (omega arith)) in ap length (t.1 ns) ∙ ap suc (length-picked ns (known_rest n ns k))

  pub picked-drop : (m : ℕ) (ns : List ℕ) → Known items ns → drop m (picked items ns) ≡ picked items (drop m ns)
  picked-drop zero ns k = refl
  picked-drop (suc m) [] k = refl
  picked-drop (suc m) (n ∷ ns) k = let t = front n (k 0 n (omega arith)) in ap (drop (suc m)) (t.1 ns) ∙ picked-drop m ns (known_rest n ns k)

  pub picked-take : (m : ℕ) (ns : List ℕ) → Known items ns → take m (picked items ns) ≡ picked items (take m ns)
  picked-take zero ns k = refl
  picked-take (suc m) [] k = refl
  picked-take (suc m) (n ∷ ns) k = let t = front n (k 0 n (omega arith)) in ap (take (suc m)) (t.1 ns) ∙ (ap (λ (c : List Item). t.0 ∷ c) (picked-take m ns (known_rest n ns k)) ∙ sym (t.1 (take m ns)))

  pub picked_push : (ns : List ℕ) (n : ℕ) (i : Item) → n < length items → i ≡ get_or items n i → picked items (ns ++ n ∷ []) ≡ picked items ns ++ i ∷ []
  picked_push [] n i l e = picked_cons n i [] l e
  picked_push (m ∷ ns) n i l e = ap (λ (c : List Item). take 1 (drop m items) ++ c) (picked_push ns n i l e) ∙ sym (append_assoc (take 1 (drop m items)) (picked items ns) (i ∷ []))

  -- one number more
  pub picked_more : (ns : List ℕ) (place : ℕ) (i : Item) → place < length ns → Known items ns → i ≡ get_or items (get_or ns place 0) i → picked items (take (place + 1) ns) ≡ picked items (take place ns) ++ i ∷ []
  picked_more ns place i l k e =
      ap (picked items) (take_more ns place 0 l) ∙ picked_push (take place ns) (get_or ns place 0) i (All-get_or (λ (n : ℕ). n < length items) ns place 0 l k) e
