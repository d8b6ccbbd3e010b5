use Rattle.std.proofs.Common.{◌+ℤ◌, arith, rules, w64, SFits}
use Rattle.std.proofs.lemmas.Int.{ints}
use Rattle.search.proofs.reading.CarriedTimeReading.step.Goals as goal

pub returns-then-item : goal.returns-then-item
returns-then-item c =
    let sum : SFits w64 (c.args.self.0 +ℤ c.args.item.now.weight) = omega (arith, ints) in
    rw c.if-item.true (search rules)
