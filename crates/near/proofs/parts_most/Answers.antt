-- `near::parts_most` meets its contract. Assumes nothing.
use mathlib.Core.Path.{refl}
use native.Mathlib.Omega.{arith}
use Rattle.near.specs.Inner.{parts_most}
use Rattle.near.proofs.parts_most.Goals as goal

pub returns : goal.returns
unfolding parts_most
returns c = record { is = refl; size = omega arith }
