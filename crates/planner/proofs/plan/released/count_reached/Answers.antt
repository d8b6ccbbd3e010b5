use Rattle.std.proofs.Common.{rules, ◌∙◌}
use borrow.Author.Tests.{tests}
use Rattle.std.proofs.lemmas.Iterator.{YieldsList-from_slice, YieldsList-from_zip}
use Rattle.std.proofs.lemmas.Iterator.Adapters.{YieldsList-from_skip}
use Rattle.std.proofs.lemmas.Iterator.Consumers.{YieldsList-at, YieldsList-from_filter, count_from_yields_List}
use Rattle.planner.proofs.Counts.{reached, length-filter-behind}
use Rattle.planner.proofs.plan.released.count_reached.Goals as goal

pub returns : goal.returns
returns c =
    let rows = c.args.rows.now in
    let times = c.args.times.now in
    let tick = c.args.tick in
    count_from_yields_List c.filter.result c.count.result c.count.ensures.ran
    (YieldsList-from_filter _ (reached tick)
    (YieldsList-at c.filter.ensures.source (YieldsList-from_skip 1
    (YieldsList-at c.skip.ensures.source (YieldsList-from_zip (YieldsList-at c.zip.ensures.first (YieldsList-from_slice rows cc)) (YieldsList-from_slice times cc)))
    c.skip.ensures.count))
    c.filter.ensures.closure (λ x b q k. search (rules, tests)))
    ∙ length-filter-behind tick rows times
