-- `sine::quarter` meets its contract, by those of `entry` and `interpolate`.
-- Assumes nothing.
use Rattle.sine.specs.Sine.{sine_quarter}
use Rattle.sine.proofs.quarter.Goals as goal

pub returns : goal.returns
unfolding sine_quarter
returns c = cc
