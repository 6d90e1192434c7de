-- `hue_difference::cross` meets its contract. Assumes nothing.
use mathlib.Core.Path.{ap₂, ◌∙◌}
use native.Mathlib.Omega.{arith}
use lib.IntN.{◌-ℤ◌}
use Rattle.hue_difference.specs.HueDifference.{cross_of}
use Rattle.hue_difference.proofs.cross.Goals as goal

pub returns : goal.returns
unfolding cross_of
returns c =
    record {
      is = c.difference.ensures.is ∙ ap₂ ◌-ℤ◌ c.product.ensures.is c.product-2.ensures.is;
      size = omega arith;
    }
