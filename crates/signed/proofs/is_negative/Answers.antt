-- `signed::is_negative` meets its contract. Assumes nothing.
use Rattle.signed.proofs.Results.{negative-is}
use Rattle.signed.proofs.is_negative.Goals as goal

pub returns : goal.returns
returns c = negative-is _
