-- `lab_text::head::read_sets` meets its contract. Assumes nothing.
use mathlib.Core.Path.{◌∙◌}
use Rattle.lab_text.specs.Keywords.{number_of_sets}
use Rattle.lab_text.proofs.FieldLaws.{none_read}
use Rattle.lab_text.proofs.HeadLaws.{sets-other, sets-are, sets-number}
use Rattle.lab_text.proofs.head.read_sets.Goals as goal

pub returns-then-not-two-named : goal.returns-then-not-two-named
unfolding number_of_sets
returns-then-not-two-named c =
    let name = c.cut-after_name.ensures in
    let number = c.cut-after_number.ensures in
    sets-other _ _ _ name.next number.next name.part c.equal-named.ensures c.if-not-two-named.true

pub returns-in_err-sets : goal.returns-in_err-sets
unfolding number_of_sets
returns-in_err-sets c =
    let name = c.cut-after_name.ensures in
    let number = c.cut-after_number.ensures in
    none_read _ c.from_residual.ensures
    (sets-are _ _ _ name.next number.next name.part c.equal-named.ensures number.part c.if-not-two-named.false
    ∙ c.in_err-sets.ensures.is)

pub returns : goal.returns
unfolding number_of_sets
returns c =
    let name = c.cut-after_name.ensures in
    let number = c.cut-after_number.ensures in (
      sets-are _ _ _ name.next number.next name.part c.equal-named.ensures number.part c.if-not-two-named.false
          ∙ c.in_ok-sets.ensures.is.0,
      c.in_ok-sets.ensures.is.1 ∙ sets-number _ _ _ name.next number.next name.part c.equal-named.ensures number.part,
    )
