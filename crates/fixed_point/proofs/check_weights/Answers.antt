-- `fixed_point::check_weights` meets its contract. Assumes nothing.
use lib.Ieee.{of_bits}
use Rattle.std.proofs.Common.{sym, refl, ◌∙◌}
use Rattle.fixed_point.proofs.Flags.{weights-by}
use Rattle.fixed_point.proofs.check_weights.Goals as goal

pub returns-then-outside : goal.returns-then-outside
unfolding of_bits
returns-then-outside c = sym (weights-by c.args.w (sym c.outside.ensures ∙ c.if-outside.true) refl refl)

pub returns-then-outside-2 : goal.returns-then-outside-2
unfolding of_bits
returns-then-outside-2 c = sym (weights-by c.args.w
    (sym c.outside.ensures ∙ c.if-outside.false)
    (sym c.outside-2.ensures ∙ c.if-outside-2.true) refl)

pub returns-then-outside-3 : goal.returns-then-outside-3
unfolding of_bits
returns-then-outside-3 c = sym (weights-by c.args.w
    (sym c.outside.ensures ∙ c.if-outside.false)
    (sym c.outside-2.ensures ∙ c.if-outside-2.false)
    (sym c.outside-3.ensures ∙ c.if-outside-3.true))

pub returns : goal.returns
unfolding of_bits
returns c = sym (weights-by c.args.w
    (sym c.outside.ensures ∙ c.if-outside.false)
    (sym c.outside-2.ensures ∙ c.if-outside-2.false)
    (sym c.outside-3.ensures ∙ c.if-outside-3.false))
