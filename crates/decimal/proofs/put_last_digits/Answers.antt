-- `decimal::put_last_digits` meets its contract. Assumes nothing.
use mathlib.Core.Path.{◌∙◌}
use native.Mathlib.Omega.{arith}
use Rattle.decimal.proofs.WritingLaws.{last_turn, last_written}
use Rattle.decimal.proofs.put_last_digits.Goals as goal

pub loop-i-preserved : goal.loop-i-preserved
loop-i-preserved c = last_turn _ _ c.loop-i.i c.loop-i.rest c.loop-i-test.true ∙ c.loop-i.invariant

pub returns : goal.returns
returns c = last_written _ _ _ c.loop-i.rest (omega arith) c.loop-i.invariant
