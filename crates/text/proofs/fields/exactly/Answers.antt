use Rattle.std.proofs.Common.{take, sym, subst, arith, length-set, rules}
use Rattle.std.specs.Iterator.{Yields}
use Rattle.std.proofs.lemmas.List.{take_more_set}
use Rattle.text.proofs.FieldLaws.{Yields-more}
use Rattle.text.proofs.fields.exactly.Goals as goal

pub loop-place-preserved : goal.loop-place-preserved
loop-place-preserved g c =
    let turn = c.loop-place in
    let kept = turn.invariant in
    record {
      can = search rules;
      long = simp length-set (omega arith);
      found = subst (λ xs. Yields g.I.Iterator.next_gives c.args.items xs c.next.new.self) (sym (take_more_set turn.place-items turn.place-index c.in_ok-place.field-0 (omega arith))) (Yields-more g.I.Iterator.next_gives c.args.items (take turn.place-index turn.place-items) turn.items c.in_ok-place.field-0 c.next.new.self kept.found c.in_ok-place.ensures.steps);
    }
