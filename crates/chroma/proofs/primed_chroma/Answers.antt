-- The root of the sum of squares. Assumes nothing.
use Rattle.chroma.specs.Chroma.{primed_chroma}
use Rattle.chroma.proofs.primed_chroma.Goals as goal

pub returns : goal.returns
unfolding primed_chroma
returns c = cc
