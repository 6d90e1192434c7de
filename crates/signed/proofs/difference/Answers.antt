-- `signed::difference` meets its contract. Assumes nothing.
use native.Mathlib.Omega.{arith}
use Rattle.signed.proofs.difference.Goals as goal

pub returns : goal.returns
returns c = record { is = cc; size = omega arith }
