-- In both branches the power is of a number of at most 10^9, so it is at most 10^9 too, and no divisor is 0. Assumes nothing.
use native.Mathlib.Omega.{arith}
use borrow.Author.Tests.{le-leb, lt-leb}
use Rattle.chroma.specs.Chroma.{ratio_of}
use Rattle.chroma.proofs.ChromaLaws.{power_le, inverse-le, hypotenuse-ge-one}
use Rattle.chroma.proofs.ratio.Goals as goal

pub overflow_mul-result : goal.overflow_mul-result
overflow_mul-result c = omega (arith, power_le _ c.if-x-le-ONE.true)

pub hypotenuse-requires : goal.hypotenuse-requires
hypotenuse-requires c = omega (arith, power_le _ c.if-x-le-ONE.true)

pub nonzero_div-result : goal.nonzero_div-result
nonzero_div-result c = omega (arith, hypotenuse-ge-one c.power-p.result)

pub hypotenuse-requires-else-x-le-ONE : goal.hypotenuse-requires-else-x-le-ONE
hypotenuse-requires-else-x-le-ONE c = omega (arith, power_le _ (inverse-le c.if-x-le-ONE.false))

pub nonzero_div-result-else-x-le-ONE : goal.nonzero_div-result-else-x-le-ONE
nonzero_div-result-else-x-le-ONE c = omega (arith, hypotenuse-ge-one c.power.result)

pub returns-then-x-le-ONE : goal.returns-then-x-le-ONE
unfolding ratio_of
returns-then-x-le-ONE c = rw (le-leb _ _ c.if-x-le-ONE.true) (cc)

pub returns-else-x-le-ONE : goal.returns-else-x-le-ONE
unfolding ratio_of
returns-else-x-le-ONE c = rw (lt-leb _ _ c.if-x-le-ONE.false) (cc)
