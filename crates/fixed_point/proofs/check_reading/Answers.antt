-- `fixed_point::check_reading` meets its contract. Assumes nothing.
use Rattle.std.proofs.Common.{sym, refl, ◌∙◌}
use lib.Ieee.{of_bits, neg}
use Rattle.fixed_point.proofs.Flags.{reading-by}
use Rattle.fixed_point.proofs.check_reading.Goals as goal

pub returns-then-some_not_finite : goal.returns-then-some_not_finite
unfolding of_bits neg
returns-then-some_not_finite c = sym (reading-by c.args.r (sym c.some_not_finite.ensures ∙ c.if-some_not_finite.true) refl refl refl)

pub returns-then-outside : goal.returns-then-outside
unfolding of_bits neg
returns-then-outside c = sym (reading-by c.args.r (sym c.some_not_finite.ensures ∙ c.if-some_not_finite.false)
    (sym c.outside.ensures ∙ c.if-outside.true) refl refl)

pub returns-then-outside-2 : goal.returns-then-outside-2
unfolding of_bits neg
returns-then-outside-2 c =
    sym (reading-by c.args.r (sym c.some_not_finite.ensures ∙ c.if-some_not_finite.false) (sym c.outside.ensures ∙ c.if-outside.false)
    (sym c.outside-2.ensures ∙ c.if-outside-2.true) refl)

pub returns-then-outside-3 : goal.returns-then-outside-3
unfolding of_bits neg
returns-then-outside-3 c =
    sym (reading-by c.args.r (sym c.some_not_finite.ensures ∙ c.if-some_not_finite.false) (sym c.outside.ensures ∙ c.if-outside.false) (sym c.outside-2.ensures ∙ c.if-outside-2.false)
    (sym c.outside-3.ensures ∙ c.if-outside-3.true))

pub returns : goal.returns
unfolding of_bits neg
returns c =
    sym (reading-by c.args.r (sym c.some_not_finite.ensures ∙ c.if-some_not_finite.false) (sym c.outside.ensures ∙ c.if-outside.false) (sym c.outside-2.ensures ∙ c.if-outside-2.false)
    (sym c.outside-3.ensures ∙ c.if-outside-3.false))
