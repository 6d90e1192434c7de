-- `lab_text::fields::read_value` meets its contract. Assumes nothing.
use mathlib.Core.Path.{sym, ap, ◌∙◌}
use Rattle.lab_text.specs.Fields.{is_whole, found_value, is_value, value_in}
use Rattle.lab_text.proofs.FieldLaws.{none_read, empty-length, value-fits, value_stored}
use Rattle.lab_text.proofs.fields.read_value.Goals as goal

pub returns-in_err-value-clause-is : goal.returns-in_err-value-clause-is
unfolding is_value
returns-in_err-value-clause-is c = none_read _ c.from_residual.ensures (ap is_whole (sym c.in_err-value.ensures.value))

pub returns-then-is_empty-clause-is : goal.returns-then-is_empty-clause-is
unfolding is_value value_in
returns-then-is_empty-clause-is c =
    let e = c.in_ok-value.ensures.value in (
      ap is_whole (sym e) ∙ empty-length _ ∙ sym c.is_empty.ensures ∙ c.if-is_empty.true,
      value_stored (value-fits c.in_ok-value.value c.in_ok-value.ensures.size) c.to_i32.ensures ∙ ap found_value e,
    )

pub returns-else-is_empty-clause-is : goal.returns-else-is_empty-clause-is
unfolding is_value
returns-else-is_empty-clause-is c =
    ap is_whole (sym c.in_ok-value.ensures.value) ∙ empty-length _ ∙ sym c.is_empty.ensures ∙ c.if-is_empty.false
