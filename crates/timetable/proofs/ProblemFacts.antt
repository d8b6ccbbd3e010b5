-- What is known of a problem.
use Rattle.std.proofs.Common.{◌≡◌, ◌+◌, ◌≤◌, true, length, ◌∙◌, arith}
use Rattle.std.proofs.lemmas.List.{length-map}
use Rattle.std.proofs.lemmas.Bool.{and_parts}
use Rattle.book.specs.Book.{frames, frees, opens, all_join}
use Rattle.book.specs.Held.{row_of}
use Rattle.book.specs.Limits.{most_loop}
use Rattle.timetable.specs.declared.problem.Problem.{Problem}
use Rattle.timetable.specs.Problem.{rows_of, gaps_of, stands, bound_of}
use Rattle.timetable.proofs.Products.{product_few}
use Rattle.book.proofs.EachKind.{frames-add-frees}

module _ (p : Problem) where
  -- each event is of one kind
  pub kinds : frames (rows_of p) + frees (rows_of p) ≡ length p.rows.now
  kinds = frames-add-frees (rows_of p) ∙ length-map p.rows.now row_of

  -- there is room for the longest loop
  pub bound_few : bound_of p ≤ most_loop
  bound_few = product_few (frames (rows_of p)) (frees (rows_of p)) (omega (arith, kinds, p.few_rows))

  pub stands_parts : stands p ≡ true → (opens (rows_of p) ≡ true) × (all_join (length p.rows.now) (gaps_of p) ≡ true)
  stands_parts s = and_parts (opens (rows_of p)) (all_join (length p.rows.now) (gaps_of p)) s
