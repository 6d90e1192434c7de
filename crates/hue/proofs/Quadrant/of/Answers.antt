-- `hue::Quadrant::of` meets its contract: the signs give the quadrant.
-- Assumes nothing.
use Rattle.signed.specs.Inner.{int}
use Rattle.hue.proofs.Quadrants.{quadrant-chosen}
use Rattle.hue.proofs.Numbers.{number-chosen}
use Rattle.hue.proofs.Quadrant.of.Goals as goal

pub returns : goal.returns
returns c = cc (quadrant-chosen (int c.args.a) (int c.args.b), number-chosen _ _ _ _)
