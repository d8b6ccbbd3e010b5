use Rattle.std.proofs.Common.{length, rules, tests}
use Rattle.timetable.proofs.Made.{made_take, made_blank}
use Rattle.timetable.proofs.Records.{coded, length-coded}
use Rattle.timetable.proofs.found.Loop.new.Goals as goal

pub invariant_of-result-clause-blank : goal.invariant_of-result-clause-blank
invariant_of-result-clause-blank c = made_blank c.from_fn.ensures.items 0 (length c.args.path.now) (λ i y q e. search (rules, tests))

pub returns-clause-codes : goal.returns-clause-codes
returns-clause-codes c =
    let items = c.args.items.now in
    let path = c.args.path.now in
    made_take c.from_fn.ensures.items 0 (length path) (coded items path) (length-coded items path c.requires.known) c.requires.short (λ i y q e. search (rules, tests))
