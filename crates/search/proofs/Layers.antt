-- What the rounds hold is the least that chains read.
use Rattle.std.proofs.Common.{◌≡◌, ℕ, zero, suc, ◌+◌, ◌<◌, ◌≤◌, cond, eqb, ◌⊎◌, List, [], ◌∷◌, ◌++◌, length, Some, None, Option, sym, refl, ap, ◌∙◌, subst, inl, inr, ⊎_elim, arith}
use mathlib.Core.Path.{fun_ext}
use Rattle.std.specs.List.{Contains}
use Rattle.std.proofs.lemmas.List.{length_push, nil_from_length}
use Rattle.std.proofs.lemmas.Bool.{cond_both, eqb-true, eqb-false}
use Rattle.search.specs.declared.item.Item.{Item}
use Rattle.search.specs.Limits.{most_rounds}
use Rattle.search.specs.Kinds.{Kind, Laws, Le}
use Rattle.search.specs.Chains.{Leads, read, Reads, LeastOf, Least, LeastEver, Settles}
use Rattle.search.specs.Rounds.{AtMost, Before, lift, least, pass, best, Steppable, Still}
use Rattle.search.proofs.Passes.{has_cons, most_refl, not_before}

leads_push : (items : List Item) (a : ℕ) (c : List Item) (i : Item) → Leads items a c i.from → Contains items i → Leads items a (c ++ i ∷ []) i.to
leads_push items a [] i e h = (h, sym e, refl)
leads_push items a (x ∷ c) i (hx, fx, l) h = (hx, fx, leads_push items x.to c i l h)

read_push : {V : Type 0} (k : Kind V) (v : V) (c : List Item) (i : Item) → read k v (c ++ i ∷ []) ≡ k.stepped i (read k v c)
read_push k v [] i = refl
read_push k v (x ∷ c) i = read_push k (k.stepped x v) c i

-- a chain's last item, and the chain before it
record Final (items : List Item) (a : ℕ) (c : List Item) (b : ℕ) : Type 0 where
  front : List Item
  last : Item
  is : c ≡ front ++ last ∷ []
  has : Contains items last
  leads : Leads items a front last.from
  to : last.to ≡ b

unpush : (items : List Item) (a : ℕ) (c : List Item) (b : ℕ) → Leads items a c b → ((c ≡ []) × (a ≡ b)) ⊎ Final items a c b
unpush items a [] b e = inl (refl, e)
unpush items a (x ∷ c) b (h, f, l) = step (unpush items x.to c b l)
  where
    step : ((c ≡ []) × (x.to ≡ b)) ⊎ Final items x.to c b → (((x ∷ c) ≡ []) × (a ≡ b)) ⊎ Final items a (x ∷ c) b
    step (inl (e, t)) = inr (record { front = []; last = x; is = ap (λ d. x ∷ d) e; has = h; leads = sym f; to = t })
    step (inr t) = inr (record { front = x ∷ t.front; last = t.last; is = ap (λ d. x ∷ d) t.is; has = t.has; leads = (h, f, t.leads); to = t.to })

-- the item leads to j, and makes v of what the row has where it begins
record Brings {V : Type 0} (kind : Kind V) (row : ℕ → Option V) (j : ℕ) (v : V) (item : Item) : Type 0 where
  to : item.to ≡ j
  is : lift kind item (row item.from) ≡ Some v

record Brought {V : Type 0} (kind : Kind V) (items : List Item) (row : ℕ → Option V) (j : ℕ) (v : V) : Type 0 where
  item : Item
  has : Contains items item
  brings : Brings kind row j v item

module _ {V : Type 0} {kind : Kind V} {reached : ℕ → V → Type 0} (laws : Laws kind reached) where
  -- the least of P is the least of Q, where Q holds of more, but of nothing less
  pub least_of_more : (P Q : V → Type 0) (o : Option V) → LeastOf kind P o → ((v : V) → P v → Q v) → ((v : V) → Q v → (u : V) × P u × Le kind u v) → LeastOf kind Q o
  least_of_more P Q None l f g = λ v q. l (g v q).0 (g v q).1
  least_of_more P Q (Some w) l f g = (f w l.0, λ v q. let t = g v q in laws.trans w t.0 v (l.1 t.0 t.1) t.2)

  -- a value of P has a least one of P below it, which is what o holds
  pub least_below : (P : V → Type 0) (o : Option V) (v : V) → LeastOf kind P o → P v → (u : V) × (o ≡ Some u) × Le kind u v
  least_below P None v l p = absurd (l v p)
  least_below P (Some w) v l p = (w, refl, l.1 v p)

  pub least_has : (P : V → Type 0) (o : Option V) (v : V) → LeastOf kind P o → o ≡ Some v → P v
  least_has P o v l e = let m = subst (LeastOf kind P) e l in m.0

  -- there is one answer
  pub least_unique : (P : V → Type 0) (o q : Option V) → LeastOf kind P o → LeastOf kind P q → o ≡ q
  least_unique P None None l m = refl
  least_unique P None (Some w) l m = absurd (l w m.0)
  least_unique P (Some w) None l m = absurd (m w l.0)
  least_unique P (Some w) (Some x) l m = ap Some (laws.antisym w x (l.1 x m.0) (m.1 w l.0))

  -- what a chain of k items reads
  chain_reached : (k : ℕ) (v : V) (c : List Item) → reached k v → k + length c ≤ most_rounds → reached (k + length c) (read kind v c)
  chain_reached k v [] h b = let e : k ≡ k + 0 = omega arith in subst (λ (n : ℕ). reached n v) e h
  chain_reached k v (i ∷ c) h b =
      let e : (k + 1) + length c ≡ k + length (i ∷ c) = omega arith in
      subst (λ (n : ℕ). reached n (read kind (kind.stepped i v) c)) e (chain_reached (k + 1) (kind.stepped i v) c (laws.goes k i v h (omega arith)) (omega arith))

  -- the least of two
  least_two : (P Q : V → Type 0) (o p : Option V) → LeastOf kind P o → LeastOf kind Q p → LeastOf kind (λ v. P v ⊎ Q v) (least kind o p)
  least_two P Q None None l m = λ v. elim [ inl a ↦ l v a | inr a ↦ m v a ]
  least_two P Q None (Some y) l m = (inr m.0, λ v. elim [ inl a ↦ absurd (l v a) | inr a ↦ m.1 v a ])
  least_two P Q (Some x) None l m = (inl l.0, λ v. elim [ inl a ↦ l.1 v a | inr a ↦ absurd (m v a) ])
  least_two P Q (Some x) (Some y) l m =
      cond_both (kind.before y x) (Some y) (Some x) (LeastOf kind (λ v. P v ⊎ Q v))
      (λ e. (inr m.0, λ v. elim [ inl a ↦ laws.trans y x v (laws.strict y x e) (l.1 v a) | inr a ↦ m.1 v a ]))
      (λ e. (inl l.0, λ v. elim [ inl a ↦ l.1 v a | inr a ↦ laws.trans x y v e (m.1 v a) ]))

  module _ (row : ℕ → Option V) (j : ℕ) where
    brings_least : (i : Item) → i.to ≡ j → (o : Option V) → lift kind i (row i.from) ≡ o → LeastOf kind (λ v. Brings kind row j v i) o
    brings_least i t None e = λ v b. cc
    brings_least i t (Some w) e = (record { to = t; is = e }, λ v b. let same : w ≡ v = cc in subst (Le kind w) same (laws.same w))

    one_item : (P : V → Type 0) (acc : Option V) (i : Item) → LeastOf kind P acc → LeastOf kind (λ v. P v ⊎ Brings kind row j v i) (cond (eqb i.to j) (least kind acc (lift kind i (row i.from))) acc)
    one_item P acc i l =
        cond_both (eqb i.to j) (least kind acc (lift kind i (row i.from))) acc (LeastOf kind (λ v. P v ⊎ Brings kind row j v i))
        (λ e. least_two P (λ v. Brings kind row j v i) acc (lift kind i (row i.from)) l (brings_least i (eqb-true i.to j e) (lift kind i (row i.from)) refl))
        (λ e. least_of_more P (λ v. P v ⊎ Brings kind row j v i) acc l (λ v a. inl a) (λ v. elim [ inl a ↦ (v, a, laws.same v) | inr b ↦ absurd (eqb-false i.to j e b.to) ]))

    pass-least : (items : List Item) (P : V → Type 0) (acc : Option V) → LeastOf kind P acc → LeastOf kind (λ v. P v ⊎ Brought kind items row j v) (pass kind row j acc items)
    pass-least [] P acc l = least_of_more P (λ v. P v ⊎ Brought kind [] row j v) acc l (λ v a. inl a) (λ v. elim [ inl a ↦ (v, a, laws.same v) | inr t ↦ absurd (omega (arith, t.has.1)) ])
    pass-least (i ∷ is) P acc l =
        let acc' = cond (eqb i.to j) (least kind acc (lift kind i (row i.from))) acc in
        let m = pass-least is (λ v. P v ⊎ Brings kind row j v i) acc' (one_item P acc i l) in
        least_of_more (λ v. (P v ⊎ Brings kind row j v i) ⊎ Brought kind is row j v) (λ v. P v ⊎ Brought kind (i ∷ is) row j v) (pass kind row j acc' is) m onto (λ v q. (v, back v q, laws.same v))
      where
        onto : (v : V) → (P v ⊎ Brings kind row j v i) ⊎ Brought kind is row j v → P v ⊎ Brought kind (i ∷ is) row j v
        onto v (inl (inl a)) = inl a
        onto v (inl (inr b)) = inr (record { item = i; has = (0, omega arith, refl); brings = b })
        onto v (inr t) = inr (record { item = t.item; has = (suc t.has.0, omega (arith, t.has.1), t.has.2); brings = t.brings })

        back : (v : V) → P v ⊎ Brought kind (i ∷ is) row j v → (P v ⊎ Brings kind row j v i) ⊎ Brought kind is row j v
        back v (inl a) = inl (inl a)
        back v (inr t) = ⊎_elim (λ e. inl (inr (subst (Brings kind row j v) (sym e) t.brings))) (λ h. inr (record { item = t.item; has = h; brings = t.brings })) (has_cons i is t.item t.has)

  lifted : (i : Item) (o : Option V) (v : V) → lift kind i o ≡ Some v → (u : V) × (o ≡ Some u) × (kind.stepped i u ≡ v)
  lifted i None v e = cc
  lifted i (Some u) v e = (u, refl, cc)

  module _ (items : List Item) (start : ℕ) where
    abbrev d : ℕ → ℕ → Option V
    d = best kind items start

    abbrev R : ℕ → ℕ → V → Type 0
    R = Reads kind items start

    abbrev Offer : ℕ → ℕ → V → Type 0
    Offer n j v = R n j v ⊎ Brought kind items (d n) j v

    longer : (n m j : ℕ) (v : V) → n ≤ m → R n j v → R m j v
    longer n m j v l r = let s = r.short in record { chain = r.chain; leads = r.leads; short = omega arith; is = r.is }

    abbrev LeastAt : ℕ → Type 0
    LeastAt n = (j : ℕ) → Least kind items start n j (d n j)

    offered_reads : (n : ℕ) → LeastAt n → (j : ℕ) (v : V) → Offer n j v → R (suc n) j v
    offered_reads n at j v (inl r) = longer n (suc n) j v (omega arith) r
    offered_reads n at j v (inr t) =
        let i = t.item in
        let w = lifted i (d n i.from) v t.brings.is in
        let u = w.0 in
        let r = least_has (R n i.from) (d n i.from) u (at i.from) w.1 in
        let s = r.short in
        record {
          chain = r.chain ++ i ∷ [];
          leads = subst (Leads items start (r.chain ++ i ∷ [])) t.brings.to (leads_push items start r.chain i r.leads t.has);
          short = omega (arith, length_push r.chain i);
          is = read_push kind kind.first r.chain i ∙ ap (kind.stepped i) r.is ∙ w.2;
        }

    read_offered : (n : ℕ) → LeastAt n → (j : ℕ) (v : V) → R (suc n) j v → (u : V) × Offer n j u × Le kind u v
    read_offered n at j v r = go (unpush items start r.chain j r.leads)
      where
        go : ((r.chain ≡ []) × (start ≡ j)) ⊎ Final items start r.chain j → (u : V) × Offer n j u × Le kind u v
        go (inl (e, s)) = (v, inl (record { chain = []; leads = s; short = omega arith; is = subst (λ (c : List Item). read kind kind.first c ≡ v) e r.is }), laws.same v)
        go (inr t) =
            let i = t.last in
            let w = read kind kind.first t.front in
            let s = r.short in
            let q : R n i.from w = record { chain = t.front; leads = t.leads; short = omega (arith, ap length t.is, length_push t.front i); is = refl } in
            let b = least_below (R n i.from) (d n i.from) w (at i.from) q in
            let e : kind.stepped i w ≡ v = sym (read_push kind kind.first t.front i) ∙ ap (read kind kind.first) (sym t.is) ∙ r.is in
            (kind.stepped i b.0, inr (record { item = i; has = t.has; brings = record { to = t.to; is = ap (lift kind i) b.1 } }), subst (Le kind (kind.stepped i b.0)) e (laws.monotone i b.0 w b.2))

    empty : (j : ℕ) (v : V) → R 0 j v → (start ≡ j) × (kind.first ≡ v)
    empty j v s =
        let t = nil_from_length s.chain (let b = s.short in omega arith) in
        (subst (λ (c : List Item). Leads items start c j) t s.leads, ap (read kind kind.first) (sym t) ∙ s.is)

    -- each place has the least that chains of at most n items read there
    pub best-least : (n j : ℕ) → Least kind items start n j (d n j)
    best-least zero j =
        cond_both (eqb j start) (Some kind.first) None (Least kind items start 0 j)
        (λ e. (record { chain = []; leads = sym (eqb-true j start e); short = omega arith; is = refl }, λ v s. subst (Le kind kind.first) (empty j v s).1 (laws.same kind.first)))
        (λ e v s. eqb-false j start e (sym (empty j v s).0))
    best-least (suc n) j =
        least_of_more (Offer n j) (R (suc n) j) (d (suc n) j) (pass-least (d n) j items (R n j) (d n j) (best-least n j)) (offered_reads n (best-least n) j) (read_offered n (best-least n) j)

    pub best_steppable : (n : ℕ) → n < most_rounds → Steppable reached (d n)
    best_steppable n b j v e =
        let r = least_has (R n j) (d n j) v (best-least n j) e in
        let k = length r.chain in
        let s = r.short in
        let h = chain_reached 0 kind.first r.chain laws.starts (omega arith) in
        let z : 0 + k ≡ k = omega arith in
        (k, omega arith, subst (λ (w : V). reached k w) r.is (subst (λ (m : ℕ). reached m (read kind kind.first r.chain)) z h))

    -- nothing changes any more
    pub still_on : (n : ℕ) → Still kind items start n → (m : ℕ) (j : ℕ) → d (n + m) j ≡ d n j
    still_on n s zero j = let e : n + 0 ≡ n = omega arith in ap (λ (k : ℕ). d k j) e
    still_on n s (suc m) j =
        let e : n + suc m ≡ suc (n + m) = omega arith in
        ap (λ (k : ℕ). d k j) e ∙ (ap (λ (row : ℕ → Option V). pass kind row j (row j) items) (fun_ext (still_on n s m)) ∙ s j)

    pub still_ever : (n : ℕ) → Still kind items start n → (j : ℕ) → LeastEver kind items start j (d n j)
    still_ever n s j =
        least_of_more (R n j) (λ v. (m : ℕ) × R m j v) (d n j) (best-least n j) (λ v r. (n, r))
        (λ v r. let q = longer r.0 (n + r.0) j v (omega arith) r.1 in
        let b = least_below (R (n + r.0) j) (d (n + r.0) j) v (best-least (n + r.0) j) q in
        (b.0, least_has (R n j) (d n j) b.0 (best-least n j) (sym (still_on n s r.0 j) ∙ b.1), b.2))

    pub still_settles : (n : ℕ) → Still kind items start n → Settles kind items start n
    still_settles n s j o p a b = least_unique (R n j) o (d n j) a (best-least n j) ∙ (sym (s j) ∙ least_unique (R (suc n) j) (d (suc n) j) p (best-least (suc n) j) b)

    pub falls_unsettled : (n v : ℕ) → Before kind (d (suc n) v) (d n v) → Settles kind items start n → ⊥
    falls_unsettled n v b s =
        let same = s v (d n v) (d (suc n) v) (best-least n v) (best-least (suc n) v) in
        not_before laws (d (suc n) v) (d n v) b (subst (AtMost kind (d n v)) same (most_refl laws (d n v)))
