-- `sine::interpolate` meets its contract: no product wraps, and the test is the lesser of the sum and 10^9.
-- Assumes nothing.
use mathlib.Core.Path.{sym}
use native.Mathlib.Nat.{le_of_lt, min-eq_left, min-eq_right}
use Rattle.sine.specs.Sine.{interpolated}
use Rattle.sine.proofs.interpolate.Goals as goal

pub returns-then-sum-lt-ONE : goal.returns-then-sum-lt-ONE
unfolding interpolated
returns-then-sum-lt-ONE c = sym (min-eq_right (le_of_lt c.if-sum-lt-ONE.true))

pub returns-else-sum-lt-ONE : goal.returns-else-sum-lt-ONE
unfolding interpolated
returns-else-sum-lt-ONE c = sym (min-eq_left c.if-sum-lt-ONE.false)
