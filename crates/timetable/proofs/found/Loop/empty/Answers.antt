use Rattle.std.proofs.Common.{ℕ, replicate, inl, inr, arith}
use Rattle.std.proofs.lemmas.Bool.{cases_lt}
use Rattle.std.proofs.lemmas.List.{get_or_past, get_or-replicate, length-replicate}
use Rattle.book.specs.Limits.{most_loop}
use Rattle.timetable.proofs.found.Loop.empty.Goals as goal

pub invariant_of-result-clause-blank : goal.invariant_of-result-clause-blank
invariant_of-result-clause-blank c k _ = elim (cases_lt k most_loop) [
  | inl l ↦ get_or-replicate most_loop k 0 0 l
  | inr l ↦ get_or_past (replicate most_loop 0) k 0 (omega (arith, length-replicate {A = ℕ} most_loop 0))
]
