-- `fixed_point::some_not_finite` meets its contract. Assumes nothing.
use native.Mathlib.Omega.{arith}
use lib.Ieee.{lt, of_bits}
use Rattle.fixed_point.proofs.Comparisons.{finite-is}
use Rattle.fixed_point.proofs.some_not_finite.Goals as goal

-- `lt` and `of_bits` open a comparison with a literal, as a must-fail edit has it
pub returns : goal.returns
unfolding lt of_bits
returns c = grind (arith, finite-is)
