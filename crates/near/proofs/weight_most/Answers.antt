-- `near::weight_most` meets its contract. Assumes nothing.
use mathlib.Core.Path.{refl}
use native.Mathlib.Omega.{arith}
use Rattle.near.specs.Inner.{weight_most}
use Rattle.near.proofs.weight_most.Goals as goal

pub returns : goal.returns
unfolding weight_most
returns c = record { is = refl; size = omega arith }
