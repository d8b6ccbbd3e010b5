-- A book at two levels, and its timetables as times that keep the searched items.
use Rattle.std.proofs.Common.{◌≡◌, ℕ, zero, suc, ◌+◌, ◌<◌, ◌≤◌, Bool, true, false, cond, List, [], ◌∷◌, length, drop, ℤ, pos, ◌+ℤ◌, ◌-ℤ◌, ◌≤ℤ◌, sym, refl, ap, ◌∙◌, subst, inl, inr, arith}
use Rattle.std.specs.List.{Contains, All}
use Rattle.std.proofs.lemmas.List.{length-map, get_or_past}
use Rattle.std.proofs.lemmas.List.Elements.{All-nil, All-cons, All-tail, All-drop, All-append, All-weaker, All-contains, All-contains_itself, Contains-append_left, Contains-append_right}
use Rattle.std.proofs.lemmas.Int.{ints}
use Rattle.std.proofs.lemmas.Bool.{cases_Bool, cases_lt, cond-true, cond-false}
use Rattle.search.specs.declared.item.Item.{Item as Searched}
use Rattle.search.specs.Floor.{Multiple, floor}
use Rattle.search.specs.Carried.{carry}
use Rattle.search.specs.Floors.{floor_facts}
use Rattle.loops.specs.Levels.{level, Ordered, Periods, Steps, Keeps}
use Rattle.book.specs.Book.{Book, Row, Gap, is_frame, row, framed, opens}
use Rattle.timetable.specs.Timetable.{at, Timetable}
use Rattle.timetable.specs.Chains.{Item, gap_items, not_before, not_after, edge_items, items}
use Rattle.timetable.specs.Gathered.{item_of, gap_item, Marked, Gathered, level_of, levels_of}
use Rattle.timetable.proofs.Spans.{top_level}
use Rattle.timetable.proofs.Transfers.{marked_of, has_to, has_from}

-- ---- the periods of the two levels

abbrev pub clock : ℤ → ℕ → ℤ
clock p zero = pos 1
clock p (suc k) = p

every_tick : (x : ℤ) → Multiple (pos 1) x
every_tick x = (x, omega (arith, ints))

pub periods : (p : ℤ) → pos 1 ≤ℤ p → Periods (clock p)
periods p one = record { positive = positive; nested = nested }
  where
    positive : (k : ℕ) → pos 1 ≤ℤ clock p k
    positive zero = omega (arith, ints)
    positive (suc k) = one

    nested : (k : ℕ) → Multiple (clock p k) (clock p (suc k))
    nested zero = every_tick p
    nested (suc k) = (pos 1, omega (arith, ints))

-- ---- the levels of the rows

pub level_at : (rows : List Row) (v : ℕ) → v < length rows → level (levels_of rows) v ≡ cond (framed rows v) 1 0
level_at [] v l = absurd (omega arith)
level_at (r ∷ rows) zero l = refl
level_at (r ∷ rows) (suc v) l = level_at rows v (omega arith)

level_low : (rows : List Row) (v : ℕ) → level (levels_of rows) v ≤ 1
level_low [] v = omega arith
level_low (r ∷ rows) zero = low (is_frame r.mark)
  where
    low : (b : Bool) → cond b 1 0 ≤ 1
    low true = omega arith
    low false = omega arith
level_low (r ∷ rows) (suc v) = level_low rows v

pub some_row : (rows : List Row) → opens rows ≡ true → 0 < length rows
some_row [] o = let z : ◌≡◌ {A = ℕ} 0 1 = cc in omega arith
some_row (r ∷ rows) o = omega arith

-- ---- items that are kept

abbrev Kept : (ℕ → ℤ) → Item → Type 0
Kept x a = (x a.to -ℤ x a.from) ≤ℤ a.weight

abbrev GapKept : (ℕ → ℤ) → Gap → Type 0
GapKept x g = (x g.to -ℤ x g.from) ≤ℤ g.width

gaps_to : (x : ℕ → ℤ) (k : ℕ) (gaps : List Gap) → All (GapKept x) gaps → All (Kept x) (gap_items k gaps)
gaps_to x k [] a = All-nil (Kept x)
gaps_to x k (g ∷ gs) a = All-cons (Kept x) (gap_item k g) (gap_items (suc k) gs) (a 0 g (omega arith)) (gaps_to x (suc k) gs (All-tail (GapKept x) g gs a))

gaps_from : (x : ℕ → ℤ) (k : ℕ) (gaps : List Gap) → All (Kept x) (gap_items k gaps) → All (GapKept x) gaps
gaps_from x k [] a = All-nil (GapKept x)
gaps_from x k (g ∷ gs) a = All-cons (GapKept x) g gs (a 0 (gap_item k g) (omega arith)) (gaps_from x (suc k) gs (All-tail (Kept x) (gap_item k g) (gap_items (suc k) gs) a))

-- event n is within the window of row k
abbrev Within : (ℕ → ℤ) → List Row → ℕ → ℕ → Type 0
Within x rows k n = ((row rows k).earliest ≤ℤ x n) × (x n ≤ℤ (row rows k).latest)

edges_to : (x : ℕ → ℤ) → x 0 ≡ pos 0 → (j : ℕ) (rows : List Row) → ((k n : ℕ) → n ≡ j + k → k < length rows → Within x rows k n) → All (Kept x) (edge_items j rows)
edges_to x o j [] h = All-nil (Kept x)
edges_to x o j (r ∷ rs) h =
    let w = h 0 j (omega arith) (omega arith) in
    let a = w.0 in
    let b = w.1 in
    let rest = edges_to x o (suc j) rs (λ k n e l. h (suc k) n (omega arith) (omega arith)) in
    All-cons (Kept x) (not_before j r) (not_after j r ∷ edge_items (suc j) rs) (omega (arith, ints)) (All-cons (Kept x) (not_after j r) (edge_items (suc j) rs) (omega (arith, ints)) rest)

edges_from : (x : ℕ → ℤ) → x 0 ≡ pos 0 → (j : ℕ) (rows : List Row) → All (Kept x) (edge_items j rows) → (k n : ℕ) → n ≡ j + k → k < length rows → Within x rows k n
edges_from x o j [] a k n e l = absurd (omega arith)
edges_from x o j (r ∷ rs) a zero n e l =
    let z : j ≡ n = omega arith in
    let p = a 0 (not_before j r) (omega arith) in
    let q = a 1 (not_after j r) (omega arith) in
    subst (λ (m : ℕ). (r.earliest ≤ℤ x m) × (x m ≤ℤ r.latest)) z (omega (arith, ints), omega (arith, ints))
edges_from x o j (r ∷ rs) a (suc k) n e l = edges_from x o (suc j) rs (All-drop (Kept x) 2 (edge_items j (r ∷ rs)) a) k n (omega arith) (omega arith)

-- the same from event 1 on, by number
windows_to : (x : ℕ → ℤ) → x 0 ≡ pos 0 → (rows : List Row) → ((j : ℕ) → 0 < j → j < length rows → Within x rows j j) → All (Kept x) (edge_items 1 (drop 1 rows))
windows_to x o [] h = All-nil (Kept x)
windows_to x o (r ∷ rs) h = edges_to x o 1 rs (λ k n e l. let z : suc k ≡ n = omega arith in subst (λ (m : ℕ). Within x rs k m) z (h (suc k) (omega arith) (omega arith)))

windows_from : (x : ℕ → ℤ) → x 0 ≡ pos 0 → (rows : List Row) → All (Kept x) (edge_items 1 (drop 1 rows)) → (j : ℕ) → 0 < j → j < length rows → Within x rows j j
windows_from x o [] a j p l = absurd (omega arith)
windows_from x o (r ∷ rs) a zero p l = absurd (omega arith)
windows_from x o (r ∷ rs) a (suc k) p l = edges_from x o 1 rs a k (suc k) (omega arith) (omega arith)

-- the not_after edge of event j is one of the items
has_late : (j : ℕ) (rows : List Row) (k n : ℕ) → n ≡ j + k → k < length rows → Contains (edge_items j rows) (not_after n (row rows k))
has_late j [] k n e l = absurd (omega arith)
has_late j (r ∷ rs) zero n e l = let z : j ≡ n = omega arith in subst (λ (m : ℕ). Contains (edge_items j (r ∷ rs)) (not_after m r)) z (1, omega arith, refl)
has_late j (r ∷ rs) (suc k) n e l = let t = has_late (suc j) rs k n (omega arith) (omega arith) in (suc (suc t.0), omega (arith, t.1), t.2)

pub late_item : (b : Book) (j : ℕ) → 0 < j → j < length b.rows → Contains (items b) (not_after j (row b.rows j))
late_item b j p l = Contains-append_right (gap_items 0 b.gaps) (edge_items 1 (drop 1 b.rows)) (not_after j (row b.rows j)) (go b.rows j p l)
  where
    go : (rows : List Row) (j : ℕ) → 0 < j → j < length rows → Contains (edge_items 1 (drop 1 rows)) (not_after j (row rows j))
    go [] j p l = absurd (omega arith)
    go (r ∷ rs) zero p l = absurd (omega arith)
    go (r ∷ rs) (suc k) p l = has_late 1 rs k (suc k) (omega arith) (omega arith)

-- ---- with the searched items

module _ (b : Book) (xs : List Searched) (all : Gathered b.period b.rows b.gaps xs) (one : pos 1 ≤ℤ b.period) (op : opens b.rows ≡ true) where
  abbrev rows : List Row
  rows = b.rows

  abbrev levels : List ℕ
  levels = levels_of b.rows

  length_levels : length levels ≡ length rows
  length_levels = length-map rows level_of

  pub ordered : Ordered levels xs
  ordered = record {
    some = omega (arith, length_levels, some_row rows op);
    top = λ v. omega (arith, level_low rows v, top_level rows op);
    begins = λ i h. let m = (marked_of b xs all i h).begins in omega (arith, length_levels);
    ends = λ i h. let m = (marked_of b xs all i h).ends in omega (arith, length_levels);
  }

  pub steps : Steps (clock b.period) levels xs
  steps i h z = elim (cases_Bool (framed rows i.to)) [ inl e ↦ down e | inr e ↦ plain e ]
    where
      m : Marked b.period b.rows i
      m = marked_of b xs all i h

      s : ℤ
      s = z +ℤ i.weight

      down : framed rows i.to ≡ true → carry i z ≡ floor (clock b.period (level levels i.to)) s
      down e =
          let k : level levels i.to ≡ 1 = level_at rows i.to m.ends ∙ ap (λ (t : Bool). cond t 1 0) e in
          cond-true i.framed (floor i.period.ticks s) s (m.marked ∙ e) ∙ (ap (λ (p : ℤ). floor p s) m.clock ∙ ap (λ (n : ℕ). floor (clock b.period n) s) (sym k))

      plain : framed rows i.to ≡ false → carry i z ≡ floor (clock b.period (level levels i.to)) s
      plain e =
          let k : level levels i.to ≡ 0 = level_at rows i.to m.ends ∙ ap (λ (t : Bool). cond t 1 0) e in
          cond-false i.framed (floor i.period.ticks s) s (m.marked ∙ e) ∙ (sym ((floor_facts (pos 1) (omega (arith, ints))).leaves s (every_tick s)) ∙ ap (λ (n : ℕ). floor (clock b.period n) s) (sym k))

  -- a time that a timetable may give event v
  on_level : (v : ℕ) (t : ℤ) → (v < length rows → framed rows v ≡ true → Multiple b.period t) → Multiple (clock b.period (level levels v)) t
  on_level v t h = elim (cases_lt v (length rows)) [ inl l ↦ inside l | inr l ↦ outside l ]
    where
      free : level levels v ≡ 0 → Multiple (clock b.period (level levels v)) t
      free k = subst (λ (n : ℕ). Multiple (clock b.period n) t) (sym k) (every_tick t)

      inside : v < length rows → Multiple (clock b.period (level levels v)) t
      inside l = elim (cases_Bool (framed rows v)) [
        | inl e ↦ subst (λ (n : ℕ). Multiple (clock b.period n) t) (sym (level_at rows v l ∙ ap (λ (f : Bool). cond f 1 0) e)) (h l e)
        | inr e ↦ free (level_at rows v l ∙ ap (λ (f : Bool). cond f 1 0) e)
      ]

      outside : length rows ≤ v → Multiple (clock b.period (level levels v)) t
      outside l = free (get_or_past levels v 0 (omega (arith, length_levels)))

  pub keeps_of : (x : List ℤ) → Timetable b x → Keeps (clock b.period) levels xs (at x)
  keeps_of x t = record {
    on_clock = λ v. on_level v (at x v) (t.on_clock v);
    kept = λ i h. All-contains (Kept (at x)) (items b) (item_of i) kept (has_to b xs all i h);
  }
    where
      kept : All (Kept (at x)) (items b)
      kept = All-append (Kept (at x)) (gap_items 0 b.gaps) (edge_items 1 (drop 1 rows)) (gaps_to (at x) 0 b.gaps t.gaps_kept) (windows_to (at x) t.opens rows (λ j p l. (t.not_before j p l, t.not_after j p l)))

  pub table_of : (x : List ℤ) → length x ≡ length rows → at x 0 ≡ pos 0 → Keeps (clock b.period) levels xs (at x) → Timetable b x
  table_of x n o k = record {
    every_event = n;
    opens = o;
    on_clock = λ j l e. subst (λ (m : ℕ). Multiple (clock b.period m) (at x j)) (level_at rows j l ∙ ap (λ (f : Bool). cond f 1 0) e) (k.on_clock j);
    not_before = λ j p l. (window j p l).0;
    not_after = λ j p l. (window j p l).1;
    gaps_kept = gaps_from (at x) 0 b.gaps (those (gap_items 0 b.gaps) (Contains-append_left (gap_items 0 b.gaps) (edge_items 1 (drop 1 rows))));
  }
    where
      those : (part : List Item) → ((a : Item) → Contains part a → Contains (items b) a) → All (Kept (at x)) part
      those part h = All-weaker (Contains part) (Kept (at x)) (λ a i. let t = has_from b xs all a (h a i) in subst (Kept (at x)) t.2 (k.kept t.0 t.1)) part (All-contains_itself part)

      window : (j : ℕ) → 0 < j → j < length rows → Within (at x) rows j j
      window = windows_from (at x) o rows (those (edge_items 1 (drop 1 rows)) (Contains-append_right (gap_items 0 b.gaps) (edge_items 1 (drop 1 rows))))
