-- `hue_difference::dot` meets its contract. Assumes nothing.
use mathlib.Core.Path.{ap₂, ◌∙◌}
use native.Mathlib.Omega.{arith}
use lib.IntN.{◌+ℤ◌}
use Rattle.hue_difference.specs.HueDifference.{dot_of}
use Rattle.hue_difference.proofs.dot.Goals as goal

pub returns : goal.returns
unfolding dot_of
returns c =
    record {
      is = c.sum.ensures.is ∙ ap₂ ◌+ℤ◌ c.product.ensures.is c.product-2.ensures.is;
      size = omega arith;
    }
