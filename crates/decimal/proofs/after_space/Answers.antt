-- `decimal::after_space` meets its contract. Assumes nothing.
use native.Mathlib.Omega.{arith}
use Rattle.std.proofs.lemmas.Grind.{common_steps}
use Rattle.decimal.specs.Reading.{after_space}
use Rattle.decimal.proofs.after_space.Goals as goal

pub returns : goal.returns
unfolding after_space
returns c = grind (arith, common_steps)
