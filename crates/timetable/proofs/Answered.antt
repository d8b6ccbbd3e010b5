-- What the search finds, as the solver's answer.
use Rattle.std.proofs.Common.{◌≡◌, ℕ, ◌<◌, ◌≤◌, Bool, true, false, cond, ◌⊎◌, List, [], ◌∷◌, map, length, take, ℤ, pos, ◌-ℤ◌, ◌≤ℤ◌, ◌<ℤ◌, Some, Option, sym, refl, ap, ◌∙◌, subst, inl, inr, arith}
use mathlib.Core.Path.{fun_ext}
use Rattle.std.specs.List.{Contains, All}
use Rattle.std.proofs.lemmas.Simd.{map-map}
use Rattle.std.proofs.lemmas.List.{length-map, length-take, length-take-le, get_or-take, get_or_past}
use Rattle.std.proofs.lemmas.List.Elements.{All-nil, All-cons, All-tail, All-weaker, All-contains, All-contains_itself}
use Rattle.std.proofs.lemmas.Int.{ints}
use Rattle.std.proofs.lemmas.Bool.{cases_Bool, cases_lt, cases_eq}
use Rattle.search.specs.declared.item.Item.{Item as Searched}
use Rattle.search.specs.declared.values.CarriedTime.{CarriedTime}
use Rattle.search.specs.Floor.{Multiple}
use Rattle.search.specs.Chains as found
use Rattle.search.specs.Carried.{time, carried}
use Rattle.search.specs.Rounds.{row_of, Still, Sought}
use Rattle.loops.specs.Levels.{level, Periods, Steps, Keeps}
use Rattle.loops.specs.Loops.{carries, time_at, Reducing}
use Rattle.loops.specs.Walks.{after}
use Rattle.loops.proofs.Settled.{beyond, latest, opening_has, led_has, settled_keeps, settled_opens}
use Rattle.book.specs.Book.{Book, Row, Gap, row, framed, opens}
use Rattle.timetable.specs.Timetable.{at, Timetable, NoLater}
use Rattle.timetable.specs.Chains.{Item, not_after, LeastReading, bound}
use Rattle.timetable.specs.Order.{Tightens}
use Rattle.timetable.specs.Solved.{Solved, Refused}
use Rattle.timetable.specs.Gathered.{item_of, Gathered, level_of, levels_of, Recorded}
use Rattle.timetable.proofs.Tables.{clock, periods, level_at, late_item, ordered, steps, keeps_of, table_of}
use Rattle.timetable.proofs.Transfers.{marked_of, has_from, chain_to, read_to, ever_to, settled_to, settled_from}

-- a timetable of a book is one of every book that asks less
tighter_table : (old new : Book) (x : List ℤ) → Tightens old new → Timetable new x → Timetable old x
tighter_table old new x g t = record {
  every_event = t.every_event ∙ g.events;
  opens = t.opens;
  on_clock = λ j l e. subst (λ (p : ℤ). Multiple p (at x j)) g.period (t.on_clock j (inside j l) ((g.rows j l).stays_frame e));
  not_before = λ j p l. let a = (g.rows j l).not_before in let b = t.not_before j p (inside j l) in omega (arith, ints);
  not_after = λ j p l. let a = (g.rows j l).not_after in let b = t.not_after j p (inside j l) in omega (arith, ints);
  gaps_kept = All-weaker (Contains old.gaps) Kept (λ h k. All-contains Kept new.gaps h t.gaps_kept (g.gaps h k)) old.gaps (All-contains_itself old.gaps);
}
  where
    Kept : Gap → Type 0
    Kept h = (at x h.to -ℤ at x h.from) ≤ℤ h.width

    inside : (j : ℕ) → j < length old.rows → j < length new.rows
    inside j l = let e = g.events in omega arith

module _ (b : Book) (xs : List Searched) (all : Gathered b.period b.rows b.gaps xs) (one : pos 1 ≤ℤ b.period) (op : opens b.rows ≡ true) where
  abbrev rows : List Row
  rows = b.rows

  abbrev levels : List ℕ
  levels = levels_of b.rows

  abbrev p : Periods (clock b.period)
  p = periods b.period one

  abbrev s : Steps (clock b.period) levels xs
  s = steps b xs all one op

  length_levels : length levels ≡ length rows
  length_levels = length-map rows level_of

  -- ---- there is a timetable

  module _ (room made last : ℕ) (layer : List (Option CarriedTime)) (causes : List (List (Option ℕ))) (sought : Sought carried xs 0 room made true layer causes last) (full : room ≡ bound b)
      (times : List ℤ) (wide : length rows ≤ length times) (is : (v : ℕ) → at times v ≡ time_at (row_of layer v)) where
    abbrev d : ℕ → Option CarriedTime
    d = after xs made

    still : Still carried xs 0 made
    still = (sought.still refl).1

    time_is : (v : ℕ) → at times v ≡ time_at (d v)
    time_is v = is v ∙ ap time_at (sought.run.is v)

    -- each event has a time
    has_time : (v : ℕ) → v < length levels → (t : ℤ) × (d v ≡ Some (time t))
    has_time v l = elim (cases_eq v 0) [ inl e ↦ opens_at e | inr e ↦ late e ]
      where
        opens_at : v ≡ 0 → (t : ℤ) × (d v ≡ Some (time t))
        opens_at e = let t = opening_has levels xs (ordered b xs all one op) (clock b.period) p s made still in (t.0, ap d e ∙ t.1)

        late : (v ≡ 0 → ⊥) → (t : ℤ) × (d v ≡ Some (time t))
        late e =
            let f = has_from b xs all (not_after v (row rows v)) (late_item b v (omega arith) (omega (arith, length_levels))) in
            let t = led_has levels xs (ordered b xs all one op) (clock b.period) p s made still f.0 f.1 (ap (λ (a : Item). a.from) f.2) in
            (t.0, subst (λ (u : ℕ). d u ≡ Some (time t.0)) (ap (λ (a : Item). a.to) f.2) t.1)

    rest : (v : ℕ) → length rows ≤ v → at times v ≡ pos 0
    rest v l = time_is v ∙ ap time_at (beyond levels xs (ordered b xs all one op) made v (omega (arith, length_levels)))

    abbrev x : List ℤ
    x = take (length rows) times

    at_x : (v : ℕ) → at x v ≡ at times v
    at_x v = elim (cases_lt v (length rows)) [ inl l ↦ get_or-take (length rows) times v (pos 0) l | inr l ↦ get_or_past x v (pos 0) (omega (arith, length-take-le (length rows) times wide)) ∙ sym (rest v l) ]

    keeps : Keeps (clock b.period) levels xs (at x)
    keeps = subst (Keeps (clock b.period) levels xs) (sym (fun_ext (λ v. at_x v ∙ time_is v))) (settled_keeps levels xs (ordered b xs all one op) (clock b.period) p s made still has_time)

    table : Timetable b x
    table = table_of b xs all one op x (length-take-le (length rows) times wide) (at_x 0 ∙ (time_is 0 ∙ settled_opens levels xs (ordered b xs all one op) (clock b.period) p s made still has_time)) keeps

    greatest : (y : List ℤ) → Timetable b y → NoLater y x
    greatest y t j l =
        let h = has_time j (let e = t.every_event in omega (arith, length_levels)) in
        subst (λ (z : ℤ). at y j ≤ℤ z) (sym (at_x j ∙ (time_is j ∙ ap time_at h.1))) (latest levels xs (ordered b xs all one op) (clock b.period) p s (at y) (keeps_of b xs all one op y t) t.opens made j h.0 h.1)

    least : (j : ℕ) → j < length rows → LeastReading b j (at times j)
    least j l =
        let h = has_time j (omega (arith, length_levels)) in
        let e : row_of layer j ≡ Some (time h.0) = sought.run.is j ∙ h.1 in
        subst (LeastReading b j) (sym (time_is j ∙ ap time_at h.1)) (ever_to b xs all j (time h.0) (subst (found.LeastEver carried xs 0 j) e (sought.ever refl j)))

    pub solved : Solved b made times
    solved = record {
      latest = record { table = table; greatest = greatest };
      least = least;
      rest = rest;
      deep = (settled_to b xs all made still, λ k l e. sought.first k l (settled_from b xs all k e));
      bounded = subst (λ (m : ℕ). made < m) full (sought.still refl).0;
      no_later = λ old y g l. l.greatest x (tighter_table old b x g table);
      no_earlier = λ old y g l. greatest y (tighter_table b old y g l.table);
    }

  -- ---- there is none

  abbrev Free : Item → Type 0
  Free a = framed rows a.to ≡ false

  -- a chain that meets nothing above the level of a free event meets no frame event
  free_chain : (u w : ℕ) (c : List Searched) → found.Leads xs u c w → All (λ i. level levels i.to ≤ 0) c → All Free (map item_of c)
  free_chain u w [] l a = All-nil Free
  free_chain u w (i ∷ c) l a =
      All-cons Free (item_of i) (map item_of c) (elim (cases_Bool (framed rows i.to)) [ inl e ↦ absurd (high e) | inr e ↦ e ]) (free_chain i.to w c l.2 (All-tail (λ (j : Searched). level levels j.to ≤ 0) i c a))
    where
      high : framed rows i.to ≡ true → ⊥
      high e = let k : level levels i.to ≡ 1 = level_at rows i.to (marked_of b xs all i l.0).ends ∙ ap (λ (t : Bool). cond t 1 0) e in let h = a 0 i (omega arith) in omega arith

  some_item : (c : List Searched) → carries (pos 0) c <ℤ pos 0 → 0 < length c
  some_item [] f = absurd (omega (arith, ints))
  some_item (i ∷ c) f = omega arith

  begins : (c : List Searched) (r : Reducing levels xs c) → (framed rows r.start ≡ true) ⊎ All Free (map item_of c)
  begins [] r = inr (All-nil Free)
  begins (i ∷ c) r = elim (cases_Bool (framed rows r.start)) [ inl e ↦ inl e | inr e ↦ inr (free e) ]
    where
      free : framed rows r.start ≡ false → All Free (map item_of (i ∷ c))
      free e =
          let l : r.start < length rows = subst (λ (v : ℕ). v < length rows) r.leads.1 (marked_of b xs all i r.leads.0).begins in
          let k : level levels r.start ≡ 0 = level_at rows r.start l ∙ ap (λ (t : Bool). cond t 1 0) e in
          free_chain r.start r.start (i ∷ c) r.leads (subst (λ (m : ℕ). All (λ j. level levels j.to ≤ m) (i ∷ c)) k r.under)

  pub refused : (count : ℕ) (codes : List ℕ) → Recorded levels xs count codes → count ≤ bound b →
      ((period : ℕ → ℤ) → Periods period → Steps period levels xs → (x : ℕ → ℤ) → Keeps period levels xs x → ⊥) → Refused b (take count codes)
  refused count codes r short unkept = record {
    none = λ f. unkept (clock b.period) p s (at f.0) (keeps_of b xs all one op f.0 f.1);
    reducing = record {
      start = r.reducing.start;
      chain = map item_of r.chain;
      coded = map-map (λ (a : Item). a.code) item_of r.chain ∙ sym r.coded;
      some = omega (arith, some_item r.chain r.reducing.falls, length-map r.chain item_of);
      leads = chain_to b xs all r.reducing.start r.reducing.start r.chain r.reducing.leads;
      begins = begins r.chain r.reducing;
      falls = subst (λ (z : ℤ). z <ℤ pos 0) (sym (read_to b xs all r.reducing.start r.reducing.start r.chain r.reducing.leads (pos 0))) r.reducing.falls;
    };
    short = omega (arith, length-take count codes);
  }
