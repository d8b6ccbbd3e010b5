use Rattle.std.proofs.Common.{arith}
use Rattle.std.proofs.lemmas.Bool.Decides.{nat_tests}
use Rattle.timetable.proofs.problem.Problem.not_before.Goals as goal

pub returns-clause-marked : goal.returns-clause-marked
returns-clause-marked c = c.item.ensures.marked (grind (arith, nat_tests))
