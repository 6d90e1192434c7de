-- `signed::natural_difference` meets its contract, by which of the two is larger. Assumes nothing.
use Rattle.signed.proofs.Results.{apart-is}
use Rattle.signed.proofs.natural_difference.Goals as goal

pub returns : goal.returns
returns c = apart-is _ _ c.abs_diff.ensures
