-- `lab_text::fields::read_words` meets its contract. Assumes nothing.
use mathlib.Core.Path.{sym, ◌∙◌}
use borrow.Author.Tests.{eqb-true}
use Rattle.lab_text.proofs.FieldLaws.{four-is, four_are}
use Rattle.lab_text.proofs.fields.read_words.Goals as goal

pub returns-then-not-four : goal.returns-then-not-four
returns-then-not-four c =
    let one = c.cut-after_first.ensures in
    let two = c.cut-after_second.ensures in
    let three = c.cut-after_third.ensures in
    let four = c.cut-after_fourth.ensures in
    sym (four-is _ _ _ _ _ one.next two.next three.next four.next) ∙ c.if-not-four.true

pub returns : goal.returns
returns c =
    let one = c.cut-after_first.ensures in
    let two = c.cut-after_second.ensures in
    let three = c.cut-after_third.ensures in
    let four = c.cut-after_fourth.ensures in
    let n = eqb-true _ 4 (sym (four-is _ _ _ _ _ one.next two.next three.next four.next) ∙ c.if-not-four.false) in (
      n,
      four_are _ _ _ _ _ one.next two.next three.next four.next n one.part two.part three.part four.part,
    )
