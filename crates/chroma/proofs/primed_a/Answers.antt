-- The product is at most 3.84 * 10^15. Assumes nothing.
use native.Mathlib.Nat.{mul-le-mul, sub-le}
use native.Mathlib.Omega.{arith}
use Rattle.chroma.specs.Chroma.{primed_a}
use Rattle.chroma.proofs.primed_a.Goals as goal

pub returns : goal.returns
unfolding primed_a
returns c = record { is = cc; size = omega (arith, mul-le-mul c.requires.a_bound (sub-le 3000000000 c.args.z)) }
