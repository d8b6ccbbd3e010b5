use Rattle.std.proofs.Common.{◌≡◌, true, length, sym, ◌∙◌, arith}
use Rattle.std.proofs.lemmas.List.Elements.{All-weaker}
use Rattle.search.specs.declared.item.Item.{Item}
use Rattle.book.specs.Book.{all_join}
use Rattle.timetable.specs.Problem.{gaps_of, MarkedIn}
use Rattle.timetable.proofs.Numbered.{joins_at, length-gaps, gap_read, built_none, built_more, built_all}
use Rattle.timetable.proofs.problem.Problem.write_gaps.Goals as goal

pub loop-number-init : goal.loop-number-init
loop-number-init c = built_none _ _ c.args.items.now (c.requires ∙ sym (length-gaps 0 c.args.self.now.gaps.now))

pub loop-number-preserved : goal.loop-number-preserved
loop-number-preserved c =
    let gaps = c.args.self.now.gaps.now in
    let k = c.loop-number.number in
    let g = c.gap-item.result in
    let t = c.loop-number-test.true in
    built_more _ _ c.loop-number.items k c.item.result c.loop-number.invariant (omega (arith, length-gaps 0 gaps)) (c.item.ensures.same ∙ sym (gap_read 0 gaps k k g (omega arith) t c.gap-item.is))
    (λ j. c.item.ensures.marked (joins_at (length c.args.self.now.rows.now) gaps k g t c.gap-item.is j))

pub returns-clause-marked : goal.returns-clause-marked
returns-clause-marked c j =
    let p = c.args.self.now in
    let t = c.loop-number-test.false in
    let r = built_all _ _ c.loop-number.items c.loop-number.number c.loop-number.invariant (omega (arith, length-gaps 0 p.gaps.now)) in
    All-weaker (λ (i : Item). all_join (length p.rows.now) (gaps_of p) ≡ true → MarkedIn p i) (MarkedIn p) (λ i h. h j) c.loop-number.items r.1
