use Rattle.std.proofs.Common.{Bool, ◌&&◌, length, map, ap, ◌∙◌}
use Rattle.book.specs.Book.{all_join}
use Rattle.book.specs.Held.{gap_of}
use Rattle.timetable.proofs.solver.solve.Goals as goal

pub returns : goal.returns
returns c o j h = c.settle.ensures (ap (λ (x : Bool). x && all_join (length c.args.rows.now) (map gap_of c.args.gaps.now)) o ∙ j) h
