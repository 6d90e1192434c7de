-- `difference::ciede2000::ciede2000_two` meets its contract. Assumes nothing.
use Rattle.difference.proofs.Pairs.{millionths-are}
use Rattle.difference.proofs.ciede2000.ciede2000_two.Goals as goal

pub returns-clause-first : goal.returns-clause-first
returns-clause-first c = millionths-are _ _ _ _ c.finish-r1.ensures

pub returns-clause-second : goal.returns-clause-second
returns-clause-second c = millionths-are _ _ _ _ c.finish-r2.ensures
