-- `signed::negated` meets its contract. Assumes nothing.
use Rattle.signed.proofs.Results.{negated-is}
use Rattle.signed.proofs.negated.Goals as goal

pub returns : goal.returns
returns c = negated-is _
