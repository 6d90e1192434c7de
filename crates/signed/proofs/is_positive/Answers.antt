-- `signed::is_positive` meets its contract. Assumes nothing.
use Rattle.signed.proofs.Results.{positive-is}
use Rattle.signed.proofs.is_positive.Goals as goal

pub returns : goal.returns
returns c = positive-is _
