-- `fixed_point::check_tolerance` meets its contract. Assumes nothing.
use Rattle.std.proofs.Common.{sym, ◌∙◌}
use lib.Ieee.{of_bits}
use Rattle.fixed_point.proofs.Flags.{tolerance-by}
use Rattle.fixed_point.proofs.check_tolerance.Goals as goal

pub returns-then-outside : goal.returns-then-outside
unfolding of_bits
returns-then-outside c = sym (tolerance-by c.args.t (sym c.outside.ensures ∙ c.if-outside.true))

pub returns : goal.returns
unfolding of_bits
returns c = sym (tolerance-by c.args.t (sym c.outside.ensures ∙ c.if-outside.false))
