use Rattle.std.proofs.Common.{◌≡◌, ◌<◌, ◌≤◌, get_or, pos, None, ap, sym, ◌∙◌, inl, inr, arith, rules, tests}
use Rattle.std.proofs.lemmas.Bool.{cases_lt}
use Rattle.std.proofs.lemmas.List.{get_or_past}
use Rattle.search.specs.Rounds.{row_of}
use Rattle.loops.specs.Loops.{time_at}
use Rattle.book.specs.Limits.{most_events}
use Rattle.timetable.proofs.found.Found.new.Goals as goal

pub returns-clause-times : goal.returns-clause-times
returns-clause-times c v = elim (cases_lt v most_events) [ inl l ↦ inside l | inr l ↦ past l ]
  where
    inside : v < most_events → get_or c.map.result v (pos 0) ≡ time_at (row_of c.args.layer.now v)
    inside l = let q = c.map.ensures.items.at v None (pos 0) l in search (rules, tests)

    past : most_events ≤ v → get_or c.map.result v (pos 0) ≡ time_at (row_of c.args.layer.now v)
    past l = get_or_past c.map.result v (pos 0) (omega (arith, c.map.ensures.items.long)) ∙ sym (ap time_at (get_or_past c.args.layer.now v None (let t = c.told-layer in omega arith)))
