-- `signed::scaled` meets its contract. Assumes nothing.
use Rattle.signed.proofs.Results.{scaled-is}
use Rattle.signed.proofs.scaled.Goals as goal

pub returns : goal.returns
returns c = scaled-is _ _
