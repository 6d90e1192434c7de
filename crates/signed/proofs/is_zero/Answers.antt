-- `signed::is_zero` meets its contract. Assumes nothing.
use Rattle.signed.proofs.SignedLaws.{int-size}
use Rattle.signed.proofs.is_zero.Goals as goal

pub returns : goal.returns
returns c = rw int-size
