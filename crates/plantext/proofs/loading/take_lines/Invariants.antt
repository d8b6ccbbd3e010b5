use Rattle.std.proofs.Common.{◌≡◌, ◌-◌, length}
use Rattle.plantext.proofs.loading.take_lines.Given as goal

abbrev pub invariant-loop-line : goal.invariant-loop-line
invariant-loop-line l = l.reader.text.now ≡ l.text

abbrev pub decreases-loop-line : goal.decreases-loop-line
decreases-loop-line l = length l.text - l.reader.cursor
