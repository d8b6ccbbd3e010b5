-- One more item of a round.
use Rattle.std.proofs.Common.{◌≡◌, ℕ, zero, suc, ◌+◌, ◌<◌, cond, eqb, ◌⊎◌, List, [], ◌∷◌, ◌++◌, length, get_or, take, set, replicate, Some, None, Option, sym, refl, ap, ◌∙◌, inl, inr, arith}
use Rattle.std.proofs.lemmas.Bool.{cases_eq, eq-eqb, ne_eqb, cond-true, cond-false, cond_both, cases_Bool}
use Rattle.std.proofs.lemmas.List.{length-set, get_or-set_same, get_or-set_other, take_more, length-replicate, get_or_read}
use Rattle.std.specs.List.{Contains}
use Rattle.search.proofs.Blanks.{get_or-replicate_same}
use Rattle.search.specs.declared.item.Item.{Item}
use Rattle.search.specs.Limits.{most_events}
use Rattle.search.specs.Kinds.{Kind, Laws}
use Rattle.search.specs.Rounds.{AtMost, Before, lift, least, pass, row_of, Cause, Why, Passed}

pub has_cons : (i : Item) (is : List Item) (x : Item) → Contains (i ∷ is) x → (i ≡ x) ⊎ Contains is x
has_cons i is x (zero, l, a) = inl a
has_cons i is x (suc k, l, a) = inr (k, omega arith, a)

pass_push : {V : Type 0} (kind : Kind V) (row : ℕ → Option V) (j : ℕ) (acc : Option V) (xs : List Item) (i : Item) → pass kind row j acc (xs ++ i ∷ []) ≡ cond (eqb i.to j) (least kind (pass kind row j acc xs) (lift kind i (row i.from))) (pass kind row j acc xs)
pass_push kind row j acc [] i = refl
pass_push kind row j acc (x ∷ xs) i = pass_push kind row j (cond (eqb x.to j) (least kind acc (lift kind x (row x.from))) acc) xs i

module _ {V : Type 0} {kind : Kind V} {reached : ℕ → V → Type 0} (laws : Laws kind reached) where
  pub most_refl : (o : Option V) → AtMost kind o o
  most_refl None = tt
  most_refl (Some x) = laws.same x

  pub most_most : (o p q : Option V) → AtMost kind o p → AtMost kind p q → AtMost kind o q
  most_most None None None a b = tt
  most_most None None (Some z) a b = b
  most_most None (Some y) q a b = absurd a
  most_most (Some x) None None a b = tt
  most_most (Some x) None (Some z) a b = absurd b
  most_most (Some x) (Some y) None a b = tt
  most_most (Some x) (Some y) (Some z) a b = laws.trans x y z a b

  -- strictly before what is at most q
  pub before_most : (o p q : Option V) → Before kind o p → AtMost kind p q → Before kind o q
  before_most None None q b a = absurd b
  before_most None (Some y) q b a = absurd b
  before_most (Some x) None None b a = tt
  before_most (Some x) None (Some z) b a = absurd a
  before_most (Some x) (Some y) None b a = tt
  before_most (Some x) (Some y) (Some z) b a = elim (cases_Bool (kind.before x z)) [ inl e ↦ e | inr e ↦ let t = laws.trans y z x a e in cc ]

  least_new : (a o : Option V) → Before kind o a → least kind a o ≡ o
  least_new None o b = refl
  least_new (Some x) None b = absurd b
  least_new (Some x) (Some y) b = cond-true (kind.before y x) (Some y) (Some x) b

  least_old : (a o : Option V) → AtMost kind a o → least kind a o ≡ a
  least_old None None b = refl
  least_old None (Some y) b = absurd b
  least_old (Some x) None b = refl
  least_old (Some x) (Some y) b = cond-false (kind.before y x) (Some y) (Some x) b

  least_left : (o p : Option V) → AtMost kind (least kind o p) o
  least_left None None = tt
  least_left None (Some y) = tt
  least_left (Some x) None = laws.same x
  least_left (Some x) (Some y) = cond_both (kind.before y x) (Some y) (Some x) (λ o. AtMost kind o (Some x)) (λ e. laws.strict y x e) (λ e. laws.same x)

  least_right : (o p : Option V) → AtMost kind (least kind o p) p
  least_right None p = most_refl p
  least_right (Some x) None = tt
  least_right (Some x) (Some y) = cond_both (kind.before y x) (Some y) (Some x) (λ o. AtMost kind o (Some y)) (λ e. laws.same y) (λ e. e)

  -- strictly before, or the same
  pub before_or_same : (o p : Option V) → AtMost kind o p → Before kind o p ⊎ (o ≡ p)
  before_or_same None None a = inr refl
  before_or_same None (Some y) a = absurd a
  before_or_same (Some x) None a = inl tt
  before_or_same (Some x) (Some y) a = elim (cases_Bool (kind.before x y)) [ inl e ↦ inl e | inr e ↦ inr (ap Some (laws.antisym x y a e)) ]

  pub not_before : (o p : Option V) → Before kind o p → AtMost kind p o → ⊥
  not_before None None b a = b
  not_before None (Some y) b a = b
  not_before (Some x) None b a = a
  not_before (Some x) (Some y) b a = cc

  pub pass_acc : (row : ℕ → Option V) (j : ℕ) (acc : Option V) (xs : List Item) → AtMost kind (pass kind row j acc xs) acc
  pass_acc row j acc [] = most_refl acc
  pass_acc row j acc (i ∷ xs) =
      most_most _ _ acc (pass_acc row j (cond (eqb i.to j) (least kind acc (lift kind i (row i.from))) acc) xs)
      (cond_both (eqb i.to j) (least kind acc (lift kind i (row i.from))) acc (λ o. AtMost kind o acc) (λ e. least_left acc (lift kind i (row i.from))) (λ e. most_refl acc))

  -- nor after what any of the items makes of the row
  pub pass_has : (row : ℕ → Option V) (j : ℕ) (acc : Option V) (xs : List Item) (i : Item) → Contains xs i → i.to ≡ j → AtMost kind (pass kind row j acc xs) (lift kind i (row i.from))
  pass_has row j acc [] i h e = absurd (omega (arith, h.1))
  pass_has row j acc (x ∷ xs) i h e = elim (has_cons x xs i h) [
    | inl s ↦ most_most _ _ (lift kind i (row i.from)) (pass_acc row j (cond (eqb x.to j) (least kind acc (lift kind x (row x.from))) acc) xs)
        (rw (s, eq-eqb i.to j e) (least_right acc (lift kind i (row i.from))))
    | inr t ↦ pass_has row j (cond (eqb x.to j) (least kind acc (lift kind x (row x.from))) acc) xs i t e
  ]

  module _ {items : List Item} where
    -- before any item
    pub passed_none : (layer : List (Option V)) → length layer ≡ most_events → Passed kind items [] (row_of layer) layer (replicate most_events None) None
    passed_none layer h = record {
      wide = h;
      causes_wide = length-replicate {A = Option ℕ} most_events None;
      layer = λ j. refl;
      why = λ j. rw (get_or-replicate_same {A = Option ℕ} most_events j None);
      changes = λ j. refl;
    }

    module _ {row : ℕ → Option V} {k : ℕ} {it : Item} {next : List (Option V)} {causes : List (Option ℕ)} {changed : Option ℕ} {offered : Option V} (before : Passed kind items (take k items) row next causes changed) (h : k < length items) (is : it ≡ get_or items k it) (made : offered ≡ lift kind it (row it.from)) where
      more : (j : ℕ) → pass kind row j (row j) (take (k + 1) items) ≡ cond (eqb it.to j) (least kind (row_of next j) offered) (row_of next j)
      more j = rw (take_more items k it h, ← is, pass_push, before.layer j, made)

      -- the item brings nothing better
      pub passed_keep : AtMost kind (row_of next it.to) offered → Passed kind items (take (k + 1) items) row next causes changed
      passed_keep a = record { wide = before.wide; causes_wide = before.causes_wide; layer = layer; why = before.why; changes = before.changes }
        where
          layer : (j : ℕ) → row_of next j ≡ pass kind row j (row j) (take (k + 1) items)
          layer j = elim (cases_eq it.to j) [
            | inl e ↦ rw (more j, eq-eqb it.to j e, ← e, least_old (row_of next it.to) offered a)
            | inr e ↦ rw (more j, ne_eqb it.to j e)
          ]

      -- the item brings something better
      pub passed_put : it.to < most_events → Before kind offered (row_of next it.to) → Passed kind items (take (k + 1) items) row (set next it.to offered) (set causes it.to (Some k)) (Some it.to)
      passed_put l b = record { wide = length-set next it.to offered ∙ before.wide; causes_wide = length-set causes it.to (Some k) ∙ before.causes_wide; layer = layer; why = why; changes = (l, fell) }
        where
          new : List (Option V)
          new = set next it.to offered

          here : row_of new it.to ≡ offered
          here = get_or-set_same next it.to offered None (omega (arith, before.wide))

          there : (j : ℕ) → (it.to ≡ j → ⊥) → row_of new j ≡ row_of next j
          there j n = get_or-set_other next it.to j offered None (λ e. n (sym e))

          fell : Before kind (row_of new it.to) (row it.to)
          fell = rw here (before_most offered (row_of next it.to) (row it.to) b (rw (before.layer it.to) (pass_acc row it.to (row it.to) (take k items))))

          layer : (j : ℕ) → row_of new j ≡ pass kind row j (row j) (take (k + 1) items)
          layer j = elim (cases_eq it.to j) [
            | inl e ↦ rw (more j, eq-eqb it.to j e, ← e, least_new (row_of next it.to) offered b) here
            | inr e ↦ rw (more j, ne_eqb it.to j e) (there j e)
          ]

          moved : (j : ℕ) (o : Option ℕ) → row_of new j ≡ row_of next j → Why kind items row (row_of next) j o → Why kind items row (row_of new) j o
          moved j None e w = e ∙ w
          moved j (Some n) e w = record { item = w.item; known = w.known; at = w.at; ends = w.ends; is = e ∙ w.is; fell = rw e w.fell }

          mine : Cause kind items row (row_of new) it.to k
          mine = record { item = it; known = h; at = λ d. sym (get_or_read items k it h is d); ends = refl; is = here ∙ made; fell = fell }

          why : (j : ℕ) → Why kind items row (row_of new) j (get_or (set causes it.to (Some k)) j None)
          why j = elim (cases_eq it.to j) [
            | inl e ↦ rw (← e, get_or-set_same causes it.to (Some k) None (omega (arith, before.causes_wide))) mine
            | inr e ↦ rw (get_or-set_other causes it.to j (Some k) None (λ f. e (sym f))) (moved j (get_or causes j None) (there j e) (before.why j))
          ]
