use Rattle.std.proofs.Common.{ℕ, ◌-◌, List, take, drop, ℤ, pos, sym, ap, ◌∙◌, subst, arith}
use Rattle.std.proofs.lemmas.List.{length-take, length-drop}
use Rattle.loops.specs.Levels.{Ordered, Steps, Periods, Keeps, room}
use Rattle.loops.specs.Loops.{Reducing, picked}
use Rattle.timetable.specs.Problem.{rows_of, book_of}
use Rattle.timetable.proofs.Answered.{refused}
use Rattle.timetable.proofs.ProblemFacts.{bound_few, stands_parts}
use Rattle.timetable.proofs.Spans.{room_is}
use Rattle.timetable.proofs.Tables.{clock, periods, ordered, steps}
use Rattle.timetable.proofs.solver.refuse.Goals as goal

pub loop_behind-part-requires : goal.loop_behind-part-requires
loop_behind-part-requires c =
    let p = c.args.problem.now in
    let ticks = p.period.ticks in
    let one = p.period.positive in
    let xs = c.args.items.now in
    let st = stands_parts p (sym c.stands.ensures ∙ c.if-not-stands.false) in
    let all = c.requires.gathered st.1 in
    let e = sym c.levels-levels.ensures in
    record {
      ordered = subst (λ (ls : List ℕ). Ordered ls xs) e (ordered (book_of p (pos 0)) xs all one st.0);
      steps = (clock ticks, periods ticks one, subst (λ (ls : List ℕ). Steps (clock ticks) ls xs) e (steps (book_of p (pos 0)) xs all one st.0));
      run = c.requires.run;
      full = c.requires.full ∙ (sym (room_is (rows_of p) st.0) ∙ ap room e);
      long = c.requires.long ∙ sym c.requires.full;
    }

pub new-requires-clause-short : goal.new-requires-clause-short
new-requires-clause-short c =
    let part = c.loop_behind-part.result in
    let path = c.loop_behind-part.new.path in
    let n = c.loop_behind-part.auto.path in
    omega (arith, length-take (part.end - part.start) (drop part.start path), length-drop part.start path, c.requires.long, bound_few c.args.problem.now)

pub returns : goal.returns
returns c s h =
    let p = c.args.problem.now in
    let xs = c.args.items.now in
    let st = stands_parts p s in
    let part = c.loop_behind-part.result in
    let path = c.loop_behind-part.new.path in
    let n = c.loop_behind-part.auto.path in
    let m = part.end - part.start in
    let rest = drop part.start path in
    let found = c.loop_behind-part.ensures in
    let e = c.levels-levels.ensures in
    refused (book_of p h) xs (c.requires.gathered st.1) p.period.positive st.0 c.new.result.count c.new.result.codes
    (record { chain = picked xs (take m rest); reducing = subst (λ (ls : List ℕ). Reducing ls xs (picked xs (take m rest))) e found.reducing; coded = c.new.ensures.codes })
    (omega (arith, c.new.ensures.count, length-take m rest, length-drop part.start path, c.requires.long))
    (subst (λ (ls : List ℕ). (period : ℕ → ℤ) → Periods period → Steps period ls xs → (x : ℕ → ℤ) → Keeps period ls xs x → ⊥) e found.unkept)
