-- `weighting::gaussian_rotation` meets its contract: the sine is not above 10^9. Assumes nothing.
use Rattle.weighting.specs.Weighting.{rotation_sine}
use Rattle.weighting.proofs.gaussian_rotation.Goals as goal

pub returns : goal.returns
unfolding rotation_sine
returns c = cc
