-- `lab_text::fields::read_number` meets its contract. Assumes nothing.
use mathlib.Core.Path.{sym, ap, ◌∙◌}
use Rattle.decimal.specs.Reading.{Run}
use Rattle.decimal.proofs.ReadingLaws.{digits-below}
use Rattle.lab_text.proofs.FieldLaws.{none_read, empty-length, number-none, number-is}
use Rattle.lab_text.proofs.fields.read_number.Goals as goal

pub returns-in_err-d-clause-is : goal.returns-in_err-d-clause-is
returns-in_err-d-clause-is c = none_read _ c.from_residual.ensures (number-none _ _ c.in_err-d.ensures)

pub returns-then-is_empty-clause-is : goal.returns-then-is_empty-clause-is
returns-then-is_empty-clause-is c =
    let d = c.in_ok-d.ensures in
    (number-is _ _ c.in_ok-d.d d.0.is d.1 ∙ empty-length _ ∙ sym c.is_empty.ensures ∙ c.if-is_empty.true, ap (λ (x : Run). x.value) d.0.is)

pub returns-then-is_empty-clause-small : goal.returns-then-is_empty-clause-small
returns-then-is_empty-clause-small c = digits-below c.args.most c.in_ok-d.ensures.0.small c.in_ok-d.ensures.0.few

pub returns-else-is_empty-clause-is : goal.returns-else-is_empty-clause-is
returns-else-is_empty-clause-is c =
    let d = c.in_ok-d.ensures in
    number-is _ _ c.in_ok-d.d d.0.is d.1 ∙ empty-length _ ∙ sym c.is_empty.ensures ∙ c.if-is_empty.false
