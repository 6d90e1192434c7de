-- `lab_text::head::read_head` meets its contract. Assumes nothing.
use mathlib.Core.Path.{◌∙◌}
use Rattle.lab_text.specs.Keywords.{begin_data_format, end_data_format, begin_data}
use Rattle.lab_text.proofs.FieldLaws.{passed, failed}
use Rattle.lab_text.proofs.HeadLaws.{five-lines}
use Rattle.lab_text.proofs.head.read_head.Goals as goal

pub returns-then-not-format-format_end : goal.returns-then-not-format-format_end
unfolding begin_data_format end_data_format begin_data
returns-then-not-format-format_end c =
    let lines = five-lines _ _ _ _ _ _ c.next_part-second.ensures c.next_part-third.ensures c.next_part-fourth.ensures
    c.next_part-fifth.ensures c.next_part-rows.ensures c.part-names.ensures c.part-sets.ensures c.line_is-format.ensures
    c.line_is-format_end.ensures c.line_is-data.ensures in
    lines.head ∙ failed _ c.if-not-format-format_end.true

pub returns-in_err-order : goal.returns-in_err-order
unfolding begin_data_format end_data_format begin_data
returns-in_err-order c =
    let lines = five-lines _ _ _ _ _ _ c.next_part-second.ensures c.next_part-third.ensures c.next_part-fourth.ensures
    c.next_part-fifth.ensures c.next_part-rows.ensures c.part-names.ensures c.part-sets.ensures c.line_is-format.ensures
    c.line_is-format_end.ensures c.line_is-data.ensures in
    rw c.from_residual.ensures (lines.head ∙ passed c.if-not-format-format_end.false (failed _ c.in_err-order.ensures))

pub returns-in_err-sets : goal.returns-in_err-sets
unfolding begin_data_format end_data_format begin_data
returns-in_err-sets c =
    let lines = five-lines _ _ _ _ _ _ c.next_part-second.ensures c.next_part-third.ensures c.next_part-fourth.ensures
    c.next_part-fifth.ensures c.next_part-rows.ensures c.part-names.ensures c.part-sets.ensures c.line_is-format.ensures
    c.line_is-format_end.ensures c.line_is-data.ensures in
    rw c.from_residual-in_err-sets.ensures
    (lines.head ∙ passed c.if-not-format-format_end.false (passed c.in_ok-order.ensures.0 c.in_err-sets.ensures))

pub returns : goal.returns
unfolding begin_data_format end_data_format begin_data
returns c =
    let lines = five-lines _ _ _ _ _ _ c.next_part-second.ensures c.next_part-third.ensures c.next_part-fourth.ensures
    c.next_part-fifth.ensures c.next_part-rows.ensures c.part-names.ensures c.part-sets.ensures c.line_is-format.ensures
    c.line_is-format_end.ensures c.line_is-data.ensures in (
      lines.head ∙ passed c.if-not-format-format_end.false (passed c.in_ok-order.ensures.0 c.in_ok-sets.ensures.0),
      record {
        order = c.in_ok-order.ensures.1 ∙ lines.order;
        sets = c.in_ok-sets.ensures.1 ∙ lines.sets;
        rows = lines.rows;
      },
    )
