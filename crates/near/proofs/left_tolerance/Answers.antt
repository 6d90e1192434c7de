-- `near::left_tolerance` meets its contract. Assumes nothing.
use native.Mathlib.Omega.{arith}
use Rattle.near.specs.Inner.{left_tolerance}
use Rattle.near.proofs.left_tolerance.Goals as goal

pub returns : goal.returns
unfolding left_tolerance
returns c = record { is = omega arith; size = omega arith }
