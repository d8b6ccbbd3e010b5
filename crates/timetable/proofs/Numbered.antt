-- The items of a book by their numbers.
use Rattle.std.proofs.Common.{◌≡◌, ℕ, zero, suc, ◌+◌, ◌-◌, ◌*◌, ◌<◌, ◌≤◌, Bool, true, ◌&&◌, List, [], ◌∷◌, ◌++◌, map, length, get_or, take, drop, set, sym, refl, ap, ◌∙◌, subst, arith}
use Rattle.std.specs.List.{All, list_all}
use Rattle.std.proofs.lemmas.Bool.{and_parts}
use Rattle.std.proofs.lemmas.List.{length-set, map-append, take_all, take_more, take_more_set}
use Rattle.std.proofs.lemmas.List.Elements.{All-nil, All-push}
use Rattle.search.specs.declared.item.Item.{Item as Searched}
use Rattle.book.specs.Book.{joins, all_join}
use Rattle.book.specs.declared.row.Row.{Row as HeldRow}
use Rattle.book.specs.declared.row.Gap.{Gap as HeldGap}
use Rattle.book.specs.Held.{row_of, gap_of}
use Rattle.timetable.specs.Chains.{Item, gap_items, not_before, not_after, edge_items}
use Rattle.timetable.specs.Gathered.{item_of, no_item}

-- ---- rows and gaps that are held

-- each gap joins, as a test of each
pub all_join_is : (n : ℕ) (gaps : List HeldGap) → list_all (λ (g : HeldGap). joins n (gap_of g)) gaps ≡ all_join n (map gap_of gaps)
all_join_is n [] = refl
all_join_is n (g ∷ gs) = ap (λ (b : Bool). joins n (gap_of g) && b) (all_join_is n gs)

pub joins_at : (n : ℕ) (gaps : List HeldGap) (k : ℕ) (g : HeldGap) → k < length gaps → g ≡ get_or gaps k g → all_join n (map gap_of gaps) ≡ true → joins n (gap_of g) ≡ true
joins_at n [] k g l e a = absurd (omega arith)
joins_at n (x ∷ xs) zero g l e a = subst (λ (y : HeldGap). joins n (gap_of y) ≡ true) (sym e) (and_parts (joins n (gap_of x)) (all_join n (map gap_of xs)) a).0
joins_at n (x ∷ xs) (suc k) g l e a = joins_at n xs k g (omega arith) e (and_parts (joins n (gap_of x)) (all_join n (map gap_of xs)) a).1

-- ---- lengths

pub length-gaps : (k : ℕ) (gaps : List HeldGap) → length (gap_items k (map gap_of gaps)) ≡ length gaps
length-gaps k [] = refl
length-gaps k (g ∷ gs) = ap suc (length-gaps (suc k) gs)

length_edges : (j : ℕ) (rows : List HeldRow) → length (edge_items j (map row_of rows)) ≡ 2 * length rows
length_edges j [] = refl
length_edges j (r ∷ rs) = omega (arith, length_edges (suc j) rs)

-- the window edges of every event but the opening
abbrev pub edges : List HeldRow → List Item
edges rows = edge_items 1 (drop 1 (map row_of rows))

pub length-edges : (rows : List HeldRow) → length (edges rows) ≡ 2 * (length rows - 1)
length-edges [] = refl
length-edges (r ∷ rs) = length_edges 1 rs ∙ ap (λ (n : ℕ). 2 * n) (omega arith)

-- ---- the item of a number

pub gap_read : (k : ℕ) (gaps : List HeldGap) (n m : ℕ) (g : HeldGap) → m ≡ k + n → n < length gaps → g ≡ get_or gaps n g → get_or (gap_items k (map gap_of gaps)) n no_item ≡ record { from = g.from; to = g.to; weight = g.width; code = m }
gap_read k [] n m g z l e = absurd (omega arith)
gap_read k (x ∷ xs) zero m g z l e =
    let y : k ≡ m = omega arith in
    ap (λ (h : HeldGap). record { from = h.from; to = h.to; weight = h.width; code = k }) (sym e) ∙ ap (λ (c : ℕ). record { from = g.from; to = g.to; weight = g.width; code = c }) y
gap_read k (x ∷ xs) (suc n) m g z l e = gap_read (suc k) xs n m g (omega arith) (omega arith) e

-- the two edges of event m are at place k of the edges by twos
abbrev EdgesAt : List Item → ℕ → ℕ → HeldRow → Type 0
EdgesAt edges k m r = (get_or edges (2 * k) no_item ≡ not_before m (row_of r)) × (get_or edges (2 * k + 1) no_item ≡ not_after m (row_of r))

edges_read : (j : ℕ) (rows : List HeldRow) (k m : ℕ) (r : HeldRow) → m ≡ j + k → k < length rows → r ≡ get_or rows k r → EdgesAt (edge_items j (map row_of rows)) k m r
edges_read j [] k m r z l e = absurd (omega arith)
edges_read j (x ∷ xs) zero m r z l e =
    let y : j ≡ m = omega arith in
    subst (λ (n : ℕ). EdgesAt (edge_items j (map row_of (x ∷ xs))) 0 n r) y (ap (λ (h : HeldRow). not_before j (row_of h)) (sym e), ap (λ (h : HeldRow). not_after j (row_of h)) (sym e))
edges_read j (x ∷ xs) (suc k) m r z l e =
    let a : 2 * suc k ≡ suc (suc (2 * k)) = omega arith in
    let b : 2 * suc k + 1 ≡ suc (suc (2 * k + 1)) = omega arith in
    let at = get_or (edge_items j (map row_of (x ∷ xs))) in
    let t = edges_read (suc j) xs k m r (omega arith) (omega arith) e in
    (ap (λ (n : ℕ). at n no_item) a ∙ t.0, ap (λ (n : ℕ). at n no_item) b ∙ t.1)

-- those of event k + 1, by its row
edge_read : (rows : List HeldRow) (k : ℕ) (r : HeldRow) → k + 1 < length rows → r ≡ get_or (drop 1 rows) k r → EdgesAt (edges rows) k (k + 1) r
edge_read [] k r l e = absurd (omega arith)
edge_read (x ∷ xs) k r l e = edges_read 1 xs k (k + 1) r (omega arith) (omega arith) e

-- ---- the items one by one

module _ (Good : Searched → Type 0) (targets : List Item) where
  -- the first k items are the first k targets, and good
  pub record Built (xs : List Searched) (k : ℕ) : Type 0 where
    pub long : length xs ≡ length targets
    pub same : map item_of (take k xs) ≡ take k targets
    pub good : All Good (take k xs)

  pub built_none : (xs : List Searched) → length xs ≡ length targets → Built xs 0
  built_none xs l = record { long = l; same = refl; good = All-nil Good }

  pub built_more : (xs : List Searched) (k : ℕ) (s : Searched) → Built xs k → k < length targets → item_of s ≡ get_or targets k no_item → Good s → Built (set xs k s) (k + 1)
  built_more xs k s b m e g =
      let t = take_more_set xs k s (omega (arith, b.long)) in
      record {
        long = length-set xs k s ∙ b.long;
        same = ap (map item_of) t ∙ (map-append item_of (take k xs) (s ∷ []) ∙ (ap (λ (is : List Item). is ++ item_of s ∷ []) b.same ∙ (ap (λ (i : Item). take k targets ++ i ∷ []) e ∙ sym (take_more targets k no_item m))));
        good = subst (All Good) (sym t) (All-push Good (take k xs) s b.good g);
      }

  pub built_all : (xs : List Searched) (k : ℕ) → Built xs k → length targets ≤ k → (map item_of xs ≡ targets) × All Good xs
  built_all xs k b m =
      let e = take_all k xs (omega (arith, b.long)) in
      (ap (map item_of) (sym e) ∙ (b.same ∙ take_all k targets m), subst (All Good) e b.good)

-- two window edges more
pub edges_more : (Good : Searched → Type 0) (rows : List HeldRow) (xs : List Searched) (k : ℕ) (a b : Searched) (r : HeldRow) → Built Good (edges rows) xs (2 * k) → k + 1 < length rows → r ≡ get_or (drop 1 rows) k r →
    item_of a ≡ not_before (k + 1) (row_of r) → item_of b ≡ not_after (k + 1) (row_of r) → Good a → Good b → Built Good (edges rows) (set (set xs (2 * k) a) (2 * k + 1) b) (2 * (k + 1))
edges_more Good rows xs k a b r u l e early late f g =
    let t = edge_read rows k r l e in
    let first = built_more Good (edges rows) xs (2 * k) a u (omega (arith, length-edges rows)) (early ∙ sym t.0) f in
    let n : 2 * k + 1 + 1 ≡ 2 * (k + 1) = omega arith in
    subst (Built Good (edges rows) (set (set xs (2 * k) a) (2 * k + 1) b)) n (built_more Good (edges rows) (set xs (2 * k) a) (2 * k + 1) b first (omega (arith, length-edges rows)) (late ∙ sym t.1) g)
