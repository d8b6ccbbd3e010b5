-- What is found along chains of searched items, in the book's own terms.
use Rattle.std.proofs.Common.{◌≡◌, ℕ, zero, suc, Bool, cond, List, [], ◌∷◌, map, length, ℤ, pos, ◌+ℤ◌, Some, None, Option, sym, refl, ap, ◌∙◌, subst, arith}
use Rattle.std.specs.List.{Contains}
use Rattle.std.proofs.lemmas.List.{length-map, get_or-map}
use Rattle.std.proofs.lemmas.List.Elements.{All-contains}
use Rattle.std.proofs.lemmas.Int.{ints}
use Rattle.search.specs.declared.item.Item.{Item as Searched}
use Rattle.search.specs.declared.values.CarriedTime.{CarriedTime}
use Rattle.search.specs.Floor.{floor}
use Rattle.search.specs.Chains as found
use Rattle.search.specs.Carried.{time, carry, carried}
use Rattle.search.specs.Rounds.{best, Still}
use Rattle.search.specs.Kept.{carried_laws}
use Rattle.search.proofs.Layers.{best-least}
use Rattle.loops.specs.Loops.{carries}
use Rattle.book.specs.Book.{Book}
use Rattle.timetable.specs.Chains.{Item, items, Leads, step, read, Reads, LeastWithin, LeastReading, SettledAt}
use Rattle.timetable.specs.Gathered.{item_of, Marked, Gathered}

has_map : (xs : List Searched) (i : Searched) → Contains xs i → Contains (map item_of xs) (item_of i)
has_map xs i (k, l, e) = (k, omega (arith, l, length-map xs item_of), get_or-map item_of xs k i (item_of i) l ∙ ap item_of e)

has_back : (xs : List Searched) (a : Item) → Contains (map item_of xs) a → (i : Searched) × Contains xs i × (item_of i ≡ a)
has_back [] a h = absurd (omega (arith, h.1))
has_back (x ∷ xs) a (zero, l, e) = (x, (0, omega arith, refl), e)
has_back (x ∷ xs) a (suc k, l, e) = let t = has_back xs a (k, omega arith, e) in (t.0, (suc t.1.0, omega (arith, t.1.1), t.1.2), t.2)

-- a reading as a number
abbrev pub value : Option CarriedTime → Option ℤ
value None = None
value (Some t) = Some t.0

value_same : (o p : Option CarriedTime) → value o ≡ value p → o ≡ p
value_same None None e = refl
value_same None (Some y) e = let z : ◌≡◌ {A = ℕ} 0 1 = cc in absurd (omega arith)
value_same (Some x) None e = let z : ◌≡◌ {A = ℕ} 0 1 = cc in absurd (omega arith)
value_same (Some x) (Some y) e = let z : x.0 ≡ y.0 = cc in ap (λ (t : ℤ). Some (time t)) z

-- there is one answer
least_unique : (b : Book) (n j : ℕ) (o p : Option ℤ) → LeastWithin b n j o → LeastWithin b n j p → o ≡ p
least_unique b n j None None l m = refl
least_unique b n j None (Some w) l m = absurd (l w m.0)
least_unique b n j (Some w) None l m = absurd (m w l.0)
least_unique b n j (Some w) (Some x) l m = let a = l.1 x m.0 in let c = m.1 w l.0 in ap Some (omega (arith, ints))

module _ (b : Book) (xs : List Searched) (all : Gathered b.period b.rows b.gaps xs) where
  pub marked_of : (i : Searched) → Contains xs i → Marked b.period b.rows i
  marked_of i h = All-contains (Marked b.period b.rows) xs i all.good h

  pub has_to : (i : Searched) → Contains xs i → Contains (items b) (item_of i)
  has_to i h = subst (λ (is : List Item). Contains is (item_of i)) all.same (has_map xs i h)

  pub has_from : (a : Item) → Contains (items b) a → (i : Searched) × Contains xs i × (item_of i ≡ a)
  has_from a h = has_back xs a (subst (λ (is : List Item). Contains is a) (sym all.same) h)

  -- the two ways to say what an item makes of a time
  step_same : (i : Searched) → Contains xs i → (z : ℤ) → step b (item_of i) z ≡ carry i z
  step_same i h z =
      let m = marked_of i h in
      ap (λ (f : Bool). cond f (floor b.period (z +ℤ i.weight)) (z +ℤ i.weight)) (sym m.marked) ∙ ap (λ (p : ℤ). cond i.framed (floor p (z +ℤ i.weight)) (z +ℤ i.weight)) (sym m.clock)

  pub read_to : (u w : ℕ) (c : List Searched) → found.Leads xs u c w → (s : ℤ) → read b s (map item_of c) ≡ carries s c
  read_to u w [] l s = refl
  read_to u w (i ∷ c) l s = ap (λ (z : ℤ). read b z (map item_of c)) (step_same i l.0 s) ∙ read_to i.to w c l.2 (carry i s)

  pub chain_to : (u w : ℕ) (c : List Searched) → found.Leads xs u c w → Leads (items b) u (map item_of c) w
  chain_to u w [] l = l
  chain_to u w (i ∷ c) l = (has_to i l.0, l.1, chain_to i.to w c l.2)

  chain_from : (u w : ℕ) (c : List Item) → Leads (items b) u c w → (d : List Searched) × found.Leads xs u d w × (map item_of d ≡ c)
  chain_from u w [] l = ([], l, refl)
  chain_from u w (a ∷ c) l =
      let t = has_from a l.0 in
      let i = t.0 in
      let e : item_of i ≡ a = t.2 in
      let r = chain_from i.to w c (subst (λ (x : Item). Leads (items b) x.to c w) (sym e) l.2) in
      (i ∷ r.0, (t.1, ap (λ (x : Item). x.from) e ∙ l.1, r.1), ap (λ (x : Item). x ∷ map item_of r.0) e ∙ ap (λ (d : List Item). a ∷ d) r.2)

  pub reads_to : (n j : ℕ) (v : CarriedTime) → found.Reads carried xs 0 n j v → Reads b n j v.0
  reads_to n j v r =
      let s = r.short in
      record { chain = map item_of r.chain; leads = chain_to 0 j r.chain r.leads; short = omega (arith, length-map r.chain item_of); is = read_to 0 j r.chain r.leads (pos 0) ∙ ap (λ (t : CarriedTime). t.0) r.is }

  pub reads_from : (n j : ℕ) (z : ℤ) → Reads b n j z → found.Reads carried xs 0 n j (time z)
  reads_from n j z r =
      let t = chain_from 0 j r.chain r.leads in
      let s = r.short in
      let e : carries (pos 0) t.0 ≡ z = sym (read_to 0 j t.0 t.1 (pos 0)) ∙ (ap (read b (pos 0)) t.2 ∙ r.is) in
      record { chain = t.0; leads = t.1; short = omega (arith, length-map t.0 item_of, ap length t.2); is = ap time e }

  pub least_to : (n j : ℕ) (o : Option CarriedTime) → found.Least carried xs 0 n j o → LeastWithin b n j (value o)
  least_to n j None l = λ v r. l (time v) (reads_from n j v r)
  least_to n j (Some t) l = (reads_to n j t l.0, λ v r. let h = l.1 (time v) (reads_from n j v r) in omega (arith, ints))

  pub ever_to : (j : ℕ) (t : CarriedTime) → found.LeastEver carried xs 0 j (Some t) → LeastReading b j t.0
  ever_to j t l = ((l.0.0, reads_to l.0.0 j t l.0.1), λ n v r. let h = l.1 (time v) (n, reads_from n j v r) in omega (arith, ints))

  abbrev d : ℕ → ℕ → Option CarriedTime
  d = best carried xs 0

  least_at : (n j : ℕ) → LeastWithin b n j (value (d n j))
  least_at n j = least_to n j (d n j) (best-least carried_laws xs 0 n j)

  pub settled_to : (n : ℕ) → Still carried xs 0 n → SettledAt b n
  settled_to n s j o l =
      let e : value (d (suc n) j) ≡ o = ap value (s j) ∙ least_unique b n j (value (d n j)) o (least_at n j) l in
      subst (LeastWithin b (suc n) j) e (least_at (suc n) j)

  pub settled_from : (n : ℕ) → SettledAt b n → found.Settles carried xs 0 n
  settled_from n s j o p l m = value_same o p (least_unique b (suc n) j (value o) (value p) (s j (value o) (least_to n j o l)) (least_to (suc n) j p m))
