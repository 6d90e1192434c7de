-- `difference::parts::weight` meets its contract. Assumes nothing.
use mathlib.Core.Path.{refl}
use native.Mathlib.Omega.{arith}
use native.Mathlib.Nat.{mul-le-mul}
use Rattle.difference.specs.Parts.{weighted}
use Rattle.difference.proofs.parts.weight.Goals as goal

pub returns : goal.returns
unfolding weighted
returns c = (refl, omega (arith, mul-le-mul c.requires.weight_in.low c.requires.s_bounds.0))
