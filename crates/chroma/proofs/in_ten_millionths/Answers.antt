-- Assumes nothing.
use native.Mathlib.Omega.{arith}
use Rattle.chroma.specs.Chroma.{in_ten_millionths}
use Rattle.chroma.proofs.in_ten_millionths.Goals as goal

pub returns : goal.returns
unfolding in_ten_millionths
returns c = record { is = cc; size = omega arith }
