-- `lab_text::rows::read_row` meets its contract. Assumes nothing.
use mathlib.Core.Path.{◌∙◌}
use mir.Facts.{to_z-of_z}
use Rattle.lab_text.proofs.FieldLaws.{none_read, passed, failed}
use Rattle.lab_text.proofs.RowLaws.{row-other, row-is, row_read}
use Rattle.lab_text.proofs.rows.read_row.Goals as goal

pub returns-in_err-words : goal.returns-in_err-words
returns-in_err-words c = none_read _ c.from_residual.ensures (row-other _ _ c.in_err-words.ensures)

pub returns-in_err-code : goal.returns-in_err-code
returns-in_err-code c =
    let row = row-is c.args.o _ _ c.in_ok-words.ensures in
    none_read _ c.from_residual-in_err-code.ensures (row ∙ failed _ c.in_err-code.ensures)

pub returns-in_err-l : goal.returns-in_err-l
returns-in_err-l c =
    let row = row-is c.args.o _ _ c.in_ok-words.ensures in
    none_read _ c.from_residual-in_err-l.ensures (row ∙ passed c.in_ok-code.ensures.0 (failed _ c.in_err-l.ensures.is))

pub returns-in_err-a : goal.returns-in_err-a
returns-in_err-a c =
    let row = row-is c.args.o _ _ c.in_ok-words.ensures in
    none_read _ c.from_residual-in_err-a.ensures
    (row ∙ passed c.in_ok-code.ensures.0 (passed c.in_ok-l.ensures.is.0 (failed _ c.in_err-a.ensures.is)))

pub returns-in_err-b : goal.returns-in_err-b
returns-in_err-b c =
    let row = row-is c.args.o _ _ c.in_ok-words.ensures in
    none_read _ c.from_residual-in_err-b.ensures
    (row ∙ passed c.in_ok-code.ensures.0 (passed c.in_ok-l.ensures.is.0 (passed c.in_ok-a.ensures.is.0 c.in_err-b.ensures.is)))

pub returns : goal.returns
returns c =
    let row = row-is c.args.o _ _ c.in_ok-words.ensures in (
      row ∙ passed c.in_ok-code.ensures.0 (passed c.in_ok-l.ensures.is.0 (passed c.in_ok-a.ensures.is.0 c.in_ok-b.ensures.is.0)),
      row_read c.args.o _ _ c.in_ok-words.ensures c.in_ok-code.ensures.1
          (to_z-of_z c.in_ok-l.ensures.fits ∙ c.in_ok-l.ensures.is.1) (to_z-of_z c.in_ok-a.ensures.fits ∙ c.in_ok-a.ensures.is.1)
          (to_z-of_z c.in_ok-b.ensures.fits ∙ c.in_ok-b.ensures.is.1),
    )
