-- The rounds so far.
use Rattle.std.proofs.Common.{add-one, ◌≡◌, ℕ, suc, ◌+◌, ◌-◌, ◌<◌, ◌≤◌, true, false, List, [], length, get_or, set, replicate, Some, None, Option, sym, refl, ◌∙◌, subst, inl, inr, arith}
use mathlib.Core.Path.{fun_ext}
use Rattle.std.proofs.lemmas.List.{get_or-set_same, get_or-set_other, length-replicate, length-set}
use Rattle.std.proofs.lemmas.Bool.{cases_eq, eq-eqb, ne_eqb, true≢false}
use Rattle.search.specs.declared.item.Item.{Item}
use Rattle.search.specs.Limits.{most_events, most_rounds}
use Rattle.search.specs.Kinds.{Kind, Laws}
use Rattle.search.specs.Chains.{Least}
use Rattle.search.specs.Rounds.{Before, best, row_of, Steppable, Why, Passed, Run, Still, Sought}
use Rattle.search.proofs.Blanks.{get_or-replicate_same}
use Rattle.search.proofs.Layers.{best-least, best_steppable, still_on, still_ever, still_settles, falls_unsettled}

module _ {V : Type 0} {kind : Kind V} {reached : ℕ → V → Type 0} (laws : Laws kind reached) (items : List Item) (start : ℕ) where
  abbrev d : ℕ → ℕ → Option V
  d = best kind items start

  pub run_first : (size : ℕ) (causes : List (List (Option ℕ))) → size ≡ most_events → start < most_events → Run kind items start 0 (set (replicate size None) start (Some kind.first)) causes start
  run_first size causes h l = record {
    wide = length-set (replicate size None) start (Some kind.first) ∙ (length-replicate {A = Option V} size None ∙ h);
    is = at;
    why = λ n l. absurd (omega arith);
    firsts = λ n l. absurd (omega arith);
    last_is = refl;
  }
    where
      at : (j : ℕ) → row_of (set (replicate size None) start (Some kind.first)) j ≡ d 0 j
      at j = elim (cases_eq j start) [
        | inl f ↦ rw (eq-eqb j start f, f, get_or-set_same (replicate size None) start (Some kind.first) None (omega (arith, length-replicate {A = Option V} size None)))
        | inr f ↦ rw (ne_eqb j start f, get_or-set_other (replicate size None) start j (Some kind.first) None f, get_or-replicate_same)
      ]

  module _ {k : ℕ} {layer : List (Option V)} {causes : List (List (Option ℕ))} {last : ℕ} (run : Run kind items start k layer causes last) where
    pub run_steppable : k < most_rounds → Steppable reached (row_of layer)
    run_steppable l j v e = best_steppable laws items start k l j v (sym (run.is j) ∙ e)

    module _ {next : List (Option V)} {whys : List (Option ℕ)} {changed : Option ℕ} (passed : Passed kind items items (row_of layer) next whys changed) where
      moved : Passed kind items items (d k) next whys changed
      moved = subst (λ (row : ℕ → Option V). Passed kind items items row next whys changed) (fun_ext run.is) passed

      pub run_still : changed ≡ None → Still kind items start k
      run_still t j = let c = rw t at moved.changes in sym (moved.layer j) ∙ c j

      pub run_next : (v : ℕ) → changed ≡ Some v → k < length causes → Run kind items start (k + 1) next (set causes k whys) v
      run_next v t h =
          let c = rw t at moved.changes in
          let e : row_of next ≡ d (suc k) = fun_ext moved.layer in
          let fell : Before kind (d (suc k) v) (d k v) = subst (λ (g : ℕ → Option V). Before kind (g v) (d k v)) e c.1 in
          let why : (j : ℕ) → Why kind items (d k) (d (suc k)) j (get_or whys j None) = subst (λ (g : ℕ → Option V). (j : ℕ) → Why kind items (d k) g j (get_or whys j None)) e moved.why in
          rw add-one (record {
            wide = moved.wide;
            is = moved.layer;
            why = λ n l. elim (cases_eq n k) [
              | inl f ↦ rw (f, get_or-set_same causes k whys [] h) why
              | inr f ↦ rw (get_or-set_other causes k n whys [] f) (run.why n (omega arith))
            ];
            firsts = λ n l. elim (cases_eq n k) [
              | inl f ↦ (v, c.0, rw f fell)
              | inr f ↦ run.firsts n (omega arith)
            ];
            last_is = (c.0, fell);
          })

    least_now : (j : ℕ) → Least kind items start k j (row_of layer j)
    least_now j = rw (run.is j) (best-least laws items start k j)

    still_asked : (room : ℕ) → k ≤ room → Still kind items start k → (j : ℕ) → Least kind items start room j (row_of layer j)
    still_asked room l s j =
        let e : k + (room - k) ≡ room = omega arith in
        rw (run.is j, ← still_on laws items start k s (room - k) j, e) (best-least laws items start room j)

    pub sought_still : {room : ℕ} → k < room → Still kind items start k → Sought kind items start room k true layer causes last
    sought_still {room} l s = record {
      run = run;
      still = λ _. (l, s);
      full = λ e. absurd (true≢false e);
      each = λ n _. best-least laws items start n;
      least = least_now;
      asked = still_asked room (omega arith) s;
      ever = λ _ j. rw (run.is j) (still_ever laws items start k s j);
      settles = λ _. still_settles laws items start k s;
      first = λ n h. let f = run.firsts n h in falls_unsettled laws items start n f.0 f.2;
    }

    pub sought_full : Sought kind items start k k false layer causes last
    sought_full = record {
      run = run;
      still = λ f. absurd (true≢false (sym f));
      full = λ _. refl;
      each = λ n _. best-least laws items start n;
      least = least_now;
      asked = least_now;
      ever = λ f. absurd (true≢false (sym f));
      settles = λ f. absurd (true≢false (sym f));
      first = λ n h. let f = run.firsts n h in falls_unsettled laws items start n f.0 f.2;
    }
