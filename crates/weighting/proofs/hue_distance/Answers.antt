-- `weighting::hue_distance` meets its contract. Assumes nothing.
use Rattle.signed.proofs.Squares.{apart-size}
use Rattle.weighting.specs.Weighting.{hue_distance}
use Rattle.weighting.proofs.hue_distance.Goals as goal

pub returns : goal.returns
unfolding hue_distance
returns c = cc (apart-size c.args.h 275000000)
