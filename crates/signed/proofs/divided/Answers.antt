-- `signed::divided` meets its contract. Assumes nothing.
use Rattle.signed.proofs.Results.{divided-is}
use Rattle.signed.proofs.divided.Goals as goal

pub returns : goal.returns
returns c = divided-is _ _
