-- `lab_text::head::read_names` meets its contract. Assumes nothing.
use mathlib.Core.Path.{sym, ◌∙◌}
use Rattle.lab_text.specs.Keywords.{sample_id, lab_l, lab_a, lab_b}
use Rattle.lab_text.proofs.FieldLaws.{none_read, passed, failed}
use Rattle.lab_text.proofs.HeadLaws.{names-other, names-are, order-is, name_in, name-out}
use Rattle.lab_text.proofs.head.read_names.Goals as goal

pub returns-in_err-words : goal.returns-in_err-words
returns-in_err-words c = none_read _ c.from_residual.ensures (names-other _ c.in_err-words.ensures)

pub returns-in_err-code : goal.returns-in_err-code
unfolding sample_id
returns-in_err-code c =
    none_read _ c.from_residual-in_err-code.ensures
    (names-are _ _ c.in_ok-words.ensures ∙ failed _ (name-out c.in_err-code.ensures))

pub returns-in_err-l : goal.returns-in_err-l
unfolding sample_id lab_l
returns-in_err-l c =
    none_read _ c.from_residual-in_err-l.ensures
    (names-are _ _ c.in_ok-words.ensures ∙ passed (name_in _ c.in_ok-code.ensures) (failed _ (name-out c.in_err-l.ensures)))

pub returns-in_err-a : goal.returns-in_err-a
unfolding sample_id lab_l lab_a
returns-in_err-a c =
    none_read _ c.from_residual-in_err-a.ensures
    (names-are _ _ c.in_ok-words.ensures
    ∙ passed (name_in _ c.in_ok-code.ensures) (passed (name_in _ c.in_ok-l.ensures) (failed _ (name-out c.in_err-a.ensures))))

pub returns-in_err-b : goal.returns-in_err-b
unfolding sample_id lab_l lab_a lab_b
returns-in_err-b c =
    none_read _ c.from_residual-in_err-b.ensures
    (names-are _ _ c.in_ok-words.ensures
    ∙ passed (name_in _ c.in_ok-code.ensures)
    (passed (name_in _ c.in_ok-l.ensures) (passed (name_in _ c.in_ok-a.ensures) (name-out c.in_err-b.ensures))))

pub returns : goal.returns
unfolding sample_id lab_l lab_a lab_b
returns c = (
  names-are _ _ c.in_ok-words.ensures
      ∙ passed (name_in _ c.in_ok-code.ensures)
      (passed (name_in _ c.in_ok-l.ensures) (passed (name_in _ c.in_ok-a.ensures) (name_in _ c.in_ok-b.ensures))),
  (λ i. record {
    code = c.in_ok-code.ensures.0 i;
    l = c.in_ok-l.ensures.0 i;
    a = c.in_ok-a.ensures.0 i;
    b = c.in_ok-b.ensures.0 i;
  })
      ∙ sym (order-is _ _ c.in_ok-words.ensures),
)
