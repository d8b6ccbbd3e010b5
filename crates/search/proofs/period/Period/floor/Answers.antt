use Rattle.std.proofs.Common.{sym, subst, rules}
use Rattle.search.specs.Floor.{GreatestMultiple}
use Rattle.search.specs.Floors.{floor_facts, floor_greatest}
use Rattle.search.proofs.period.Period.floor.Goals as goal

pub returns-clause-greatest : goal.returns-clause-greatest
returns-clause-greatest c =
    let p = c.args.self.ticks in
    subst (GreatestMultiple p c.args.sum) (sym (search rules)) (floor_greatest p (floor_facts p c.args.self.positive) c.args.sum)

pub returns-clause-facts : goal.returns-clause-facts
returns-clause-facts c = floor_facts c.args.self.ticks c.args.self.positive
