-- `difference::cie94::plain` meets its contract. Assumes nothing.
use Rattle.difference.proofs.Points.{point-plain}
use Rattle.difference.proofs.cie94.plain.Goals as goal

pub returns : goal.returns
returns c =
    point-plain c.args.s _ _ c.in_ten_millionths.ensures c.in_ten_millionths-2.ensures
