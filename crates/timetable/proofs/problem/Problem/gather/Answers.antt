use Rattle.std.proofs.lemmas.List.{map-append}
use Rattle.std.proofs.lemmas.List.Elements.{All-append}
use Rattle.timetable.specs.Problem.{MarkedIn}
use Rattle.timetable.proofs.problem.Problem.gather.Goals as goal

pub returns : goal.returns
returns c j =
    let gaps = c.write_gaps.ensures in
    let edges = c.write_edges.ensures in
    record {
      same = rw (map-append, gaps.same, edges.same);
      good = All-append (MarkedIn c.args.self.now) c.write_gaps.new.items c.write_edges.new.items (gaps.marked j) edges.marked;
    }
