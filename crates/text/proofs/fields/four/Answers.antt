use Rattle.text.proofs.FieldLaws.{other_count}
use Rattle.text.proofs.fields.four.Goals as goal

pub returns-in_err-a : goal.returns-in_err-a
returns-in_err-a c = rw c.from_residual.ensures (other_count _ 4 c.in_err-a.ensures)
