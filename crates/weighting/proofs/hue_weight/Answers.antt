-- `weighting::hue_weight` meets its contract: its product does not wrap. Assumes nothing.
use mathlib.Core.Path.{refl}
use Rattle.weighting.specs.Weighting.{hue_weight}
use Rattle.weighting.proofs.hue_weight.Goals as goal

pub returns : goal.returns
unfolding hue_weight
returns c = refl
