use Rattle.std.proofs.Common.{◌+◌}
use Rattle.std.proofs.lemmas.List.{take_rest}
use Rattle.text.proofs.LineLaws.{cut_at}
use Rattle.text.proofs.FieldLaws.{fields_step, split_none}
use Rattle.text.proofs.fields.first_field.Goals as goal

pub returns-in-Some-clause-parts : goal.returns-in-Some-clause-parts
returns-in-Some-clause-parts c =
    let xs = c.args.line.now in
    let n = c.in-Some.n in
    let found = c.in-Some.ensures in
    rw (take_rest xs (n + 1)) (fields_step _ _ _ (cut_at 44 xs n found.0 found.1 found.2))

pub returns-in-None-clause-parts : goal.returns-in-None-clause-parts
returns-in-None-clause-parts c = split_none 44 _ c.in-None.ensures
