-- The sum is at most 2 * 10^18. Assumes nothing.
use Rattle.chroma.specs.Chroma.{hypotenuse_of}
use Rattle.chroma.proofs.hypotenuse.Goals as goal

pub returns : goal.returns
unfolding hypotenuse_of
returns c = cc
