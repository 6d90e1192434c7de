-- `difference::ciede2000::primed` meets its contract. Assumes nothing.
use Rattle.difference.proofs.Points.{point-primed}
use Rattle.difference.proofs.ciede2000.primed.Goals as goal

pub returns : goal.returns
returns c = point-primed c.args.s _ c.requires _ _ _ c.primed_a-a.ensures c.in_ten_millionths-b.ensures c.primed_chroma.ensures
