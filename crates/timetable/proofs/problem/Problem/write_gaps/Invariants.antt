use Rattle.std.proofs.Common.{◌≡◌, true, length}
use Rattle.search.specs.declared.item.Item.{Item}
use Rattle.book.specs.Book.{all_join}
use Rattle.timetable.specs.Chains.{gap_items}
use Rattle.timetable.specs.Problem.{gaps_of, MarkedIn}
use Rattle.timetable.proofs.Numbered.{Built}
use Rattle.timetable.proofs.problem.Problem.write_gaps.Given as goal

abbrev pub invariant-loop-number : goal.invariant-loop-number
invariant-loop-number l = Built (λ (i : Item). all_join (length l.self.rows.now) (gaps_of l.self) ≡ true → MarkedIn l.self i) (gap_items 0 (gaps_of l.self)) l.items l.number
