-- `weighting::chroma_weight` meets its contract. Assumes nothing.
use mathlib.Core.Path.{refl}
use Rattle.weighting.specs.Weighting.{chroma_weight}
use Rattle.weighting.proofs.chroma_weight.Goals as goal

pub returns : goal.returns
unfolding chroma_weight
returns c = refl
