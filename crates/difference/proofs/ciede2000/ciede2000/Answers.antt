-- `difference::ciede2000::ciede2000` meets its contract. Assumes nothing.
use Rattle.difference.proofs.Pairs.{millionths-are}
use Rattle.difference.proofs.ciede2000.ciede2000.Goals as goal

pub returns : goal.returns
returns c = millionths-are _ _ _ _ c.finish-r.ensures
