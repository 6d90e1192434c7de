-- `near::Neighbourhood::is_saturated` meets its contract. Assumes nothing.
use Rattle.near.specs.Inner.{saturated}
use Rattle.near.proofs.Neighbourhood.is_saturated.Goals as goal

pub returns : goal.returns
unfolding saturated
returns c = cc (c.extent.ensures.is, c.args.self.worked.extent.is)
