use Rattle.std.proofs.Common.{ℕ, length, sym, subst, arith}
use Rattle.std.proofs.lemmas.List.{length-map}
use Rattle.book.specs.Held.{row_of}
use Rattle.timetable.specs.Problem.{book_of}
use Rattle.timetable.specs.Solved.{Solved}
use Rattle.timetable.proofs.Answered.{solved}
use Rattle.timetable.proofs.ProblemFacts.{bound_few, stands_parts}
use Rattle.timetable.proofs.solver.settle.Goals as goal

pub search-requires-clause-room : goal.search-requires-clause-room
search-requires-clause-room c = omega (arith, c.requires.causes, bound_few c.args.problem.now)

pub returns-in-Ok : goal.returns-in-Ok
returns-in-Ok c s h =
    let p = c.args.problem.now in
    let b = book_of p h in
    let xs = c.gather.new.items in
    let r = c.in-Ok.rounds in
    let st = stands_parts p s in
    let f = p.few_rows in
    let w = c.new.result.wide in
    subst (λ (d : ℕ). Solved b d c.new.result.times) (sym c.new.ensures.depth)
    (solved b xs (c.gather.ensures st.1) p.period.positive st.0 (length c.args.causes.now) r.made r.last c.search.new.layer c.search.new.causes c.in-Ok.ensures c.requires.causes c.new.result.times (omega (arith, length-map p.rows.now row_of)) c.new.ensures.times)
