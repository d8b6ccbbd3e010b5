use Rattle.std.proofs.Common.{◌≡◌, refl, ◌∙◌, arith, rules}
use Rattle.text.proofs.NumberLaws.{figures_parsed, figures_not_utf8}
use Rattle.text.proofs.number.figures.Goals as goal

pub returns-in_err-ok-in-49-to-57-clause-value : goal.returns-in_err-ok-in-49-to-57-clause-value
returns-in_err-ok-in-49-to-57-clause-value c = rw (c.from_residual.ensures, figures_not_utf8 c.args.digits.now (search rules)) refl

pub returns-in_ok-ok-in-49-to-57 : goal.returns-in_ok-ok-in-49-to-57
returns-in_ok-ok-in-49-to-57 c =
    let same : c.in_ok-ok-in-49-to-57.field-0.now ≡ c.args.digits.now = search rules in
    let parsed = figures_parsed c.args.digits.now _ (omega arith) (omega arith) (omega arith) (omega arith) (rw same at c.parse.ensures.value.0) in
    record { value = c.ok-in-49-to-57.ensures.value ∙ parsed.0; bound = rw c.ok-in-49-to-57.ensures.value parsed.1 }
