-- `hue::Turned::reached` meets its contract: no product wraps.
-- Assumes nothing.
use Rattle.hue.specs.Hue.{reaches}
use Rattle.hue.proofs.Turned.reached.Goals as goal

pub returns : goal.returns
unfolding reaches
returns c = cc
