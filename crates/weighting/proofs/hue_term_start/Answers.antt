-- `weighting::hue_term_start` meets its contract: each sum is what it says, and the sizes add up. Assumes nothing.
use native.Mathlib.Omega.{arith}
use Rattle.weighting.proofs.hue_term_start.Goals as goal

pub returns : goal.returns
returns c = record { is = cc; size = omega arith }
