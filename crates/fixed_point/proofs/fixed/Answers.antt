-- `fixed_point::fixed` meets its contract. Assumes nothing.
use Rattle.std.proofs.Common.{ℕ, ap, ◌∙◌}
use lib.Ieee.{lt, of_bits}
use Rattle.signed.specs.Value.{with_sign}
use Rattle.signed.specs.Inner.{int}
use Rattle.fixed_point.proofs.Sizes.{zero_f}
use Rattle.fixed_point.proofs.FixedLaws.{sign-is}
use Rattle.fixed_point.proofs.fixed.Goals as goal

pub returns : goal.returns
unfolding int of_bits
returns c = ap (λ (n : ℕ). with_sign (lt c.args.x zero_f) n) c.fixed_size.ensures ∙ sign-is
    c.args.x c.requires.is_finite
