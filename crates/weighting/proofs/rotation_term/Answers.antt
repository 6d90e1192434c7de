-- `weighting::rotation_term` meets its contract: the Gaussian is not above 10^9. Assumes nothing.
use native.Mathlib.Omega.{arith}
use Rattle.gaussian.proofs.GaussianLaws.{gaussian-le}
use Rattle.weighting.specs.Weighting.{rotation}
use Rattle.weighting.proofs.rotation_term.Goals as goal

pub gaussian_rotation-requires : goal.gaussian_rotation-requires
gaussian_rotation-requires c = record { e_bound = omega (arith, c.gaussian.ensures, gaussian-le c.hue_distance.result); z_bound = c.requires }

pub returns : goal.returns
unfolding rotation
returns c = cc
