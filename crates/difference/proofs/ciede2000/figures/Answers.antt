-- `difference::ciede2000::figures` meets its contract. Assumes nothing.
use Rattle.difference.proofs.Pairs.{figures-are}
use Rattle.difference.proofs.ciede2000.figures.Goals as goal

pub returns : goal.returns
returns c = figures-are _ _ _ c.points_of-x.result _ _ c.points_of-x.ensures c.hue_figures-hues.ensures c.finish-r.ensures
