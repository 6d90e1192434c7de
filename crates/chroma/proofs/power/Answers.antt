-- Each product is at most 10^18. Assumes nothing.
use Rattle.chroma.specs.Chroma.{power_of}
use Rattle.chroma.proofs.power.Goals as goal

pub returns : goal.returns
unfolding power_of
returns c = cc
