-- `lab_text::fields::read_code` meets its contract. Assumes nothing.
use Rattle.lab_text.proofs.FieldLaws.{none_read, code-none, code_read}
use Rattle.lab_text.proofs.fields.read_code.Goals as goal

pub returns-in_err-read_number : goal.returns-in_err-read_number
returns-in_err-read_number c = none_read _ c.from_residual.ensures (code-none _ c.in_err-read_number.ensures.is)

pub returns : goal.returns
returns c =
    code_read _ c.in_ok-read_number.ensures.is.0 c.try_from.result c.try_from.ensures c.ok.ensures.value c.in_ok-read_number.ensures.is.1
