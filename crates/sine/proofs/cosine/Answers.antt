-- `sine::cosine` meets its contract: it is the sine 90 degrees on.
-- Assumes nothing.
use Rattle.sine.specs.Sine.{cosine_of}
use Rattle.sine.proofs.cosine.Goals as goal

pub returns : goal.returns
unfolding cosine_of
returns c = c.sine.ensures
