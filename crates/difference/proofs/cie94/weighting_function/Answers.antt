-- `difference::cie94::weighting_function` meets its contract. Assumes nothing.
use mathlib.Core.Path.{refl}
use native.Mathlib.Nat.{mul-le-mul}
use native.Mathlib.Omega.{arith}
use Rattle.difference.specs.Cie94.{weighting_function}
use Rattle.difference.proofs.cie94.weighting_function.Goals as goal

pub returns : goal.returns
unfolding weighting_function
returns c = record {
  is = refl;
  low = omega arith;
  high = omega (arith, mul-le-mul c.requires.constant_bound c.requires.c_bound);
}
