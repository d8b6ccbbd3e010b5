use Rattle.std.proofs.Common.{◌≡◌, ◌<◌, cond, length, get_or, sym, ◌∙◌, arith, rules, tests}
use Rattle.std.proofs.lemmas.List.{length-map}
use Rattle.book.specs.Book.{framed}
use Rattle.book.specs.Held.{row_of}
use Rattle.timetable.specs.Gathered.{level_of, levels_of}
use Rattle.timetable.specs.Problem.{rows_of}
use Rattle.timetable.proofs.Made.{made_take}
use Rattle.timetable.proofs.Tables.{level_at}
use Rattle.timetable.proofs.problem.Problem.levels.Goals as goal

pub returns : goal.returns
returns c =
    let p = c.args.self.now in
    let n = length-map p.rows.now row_of in
    made_take c.from_fn.ensures.items 0 (length p.rows.now) (levels_of (rows_of p)) (length-map (rows_of p) level_of ∙ n) p.few_rows
    (λ i y q e. (let t : i < length p.rows.now → cond (framed (rows_of p) i) 1 0 ≡ get_or (levels_of (rows_of p)) i 0 = λ l. sym (level_at (rows_of p) i (omega (arith, n))) in search (rules, tests, t)))
