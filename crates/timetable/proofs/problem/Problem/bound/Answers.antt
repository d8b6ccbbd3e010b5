use Rattle.std.proofs.Common.{◌≡◌, ℕ, ◌+◌, ◌-◌, ◌*◌, length, ap, ◌∙◌, subst, sym, ◌≤◌, arith}
use Rattle.book.specs.Book.{frames, frees}
use Rattle.book.specs.Limits.{most_loop}
use Rattle.timetable.specs.Problem.{rows_of, bound_of}
use Rattle.timetable.proofs.ProblemFacts.{kinds, bound_few}
use Rattle.timetable.proofs.problem.Problem.bound.Goals as goal

pub overflow_sub-free : goal.overflow_sub-free
overflow_sub-free c = omega (arith, c.frames-frames.ensures.is, kinds c.args.self.now)

pub returns : goal.returns
returns c =
    let p = c.args.self.now in
    let m = c.frames-frames.result in
    let free = length p.rows.now - m in
    let f : free ≡ frees (rows_of p) = omega (arith, c.frames-frames.ensures.is, kinds p) in
    let is : m * (free + 1) ≡ bound_of p = ap (λ (k : ℕ). k * (free + 1)) c.frames-frames.ensures.is ∙ ap (λ (k : ℕ). frames (rows_of p) * (k + 1)) f in
    record { is = is; few = subst (λ (k : ℕ). k ≤ most_loop) (sym is) (bound_few p) }
