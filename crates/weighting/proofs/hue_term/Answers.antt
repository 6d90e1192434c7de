-- `weighting::hue_term` meets its contract: each sum is what it says. Assumes nothing.
use Rattle.weighting.specs.Weighting.{hue_term_z, hue_term}
use Rattle.weighting.proofs.hue_term.Goals as goal

pub returns : goal.returns
unfolding hue_term hue_term_z
returns c = cc
