use Rattle.std.proofs.Common.{◌+◌, ◌≤◌, length, drop, refl, arith}
use Rattle.std.proofs.lemmas.List.{take_rest, length-take-le, length-drop, drop-drop}
use Rattle.text.proofs.LineLaws.{cut_at, lines_step, lines_none}
use Rattle.text.proofs.reader.steps.ReaderIterator.next.Goals as goal

pub returns-in_err-n-clause-steps : goal.returns-in_err-n-clause-steps
returns-in_err-n-clause-steps c =
    let self = c.args.self.now in
    let lacks = rw (take_rest self.text.now self.cursor) at c.in_err-n.ensures in
    rw c.from_residual.ensures record { lacks = lacks; no_lines = lines_none _ lacks; same = refl }

pub returns-clause-steps : goal.returns-clause-steps
returns-clause-steps c =
    let xs = c.args.self.now.text.now in
    let at = c.args.self.now.cursor in
    let n = c.in_ok-n.n in
    let left = drop at xs in
    let found = rw (take_rest xs at) at c.in_ok-n.ensures in
    let behind : at + (n + 1) ≤ length xs = omega (arith, found.0, length-drop at xs) in
    let cut = rw (drop-drop (n + 1) at xs) at (cut_at 10 left n found.0 found.1 found.2) in
    record {
      cut = rw (take_rest xs at) cut;
      lines_left = rw (take_rest xs at) (lines_step _ _ _ cut);
      line_at = refl;
      rest_is = rw (take_rest xs at, take_rest left (n + 1), drop-drop (n + 1) at xs) refl;
      rest_at = refl;
      text = refl;
      cursor = rw (take_rest xs at) (omega (arith, found.0, length-take-le n left));
      number = refl;
      grows = omega arith;
      within = behind;
    }
