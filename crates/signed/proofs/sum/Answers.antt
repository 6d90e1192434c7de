-- `signed::sum` meets its contract, by whether the signs differ. Assumes nothing.
use Rattle.signed.proofs.Results.{sum-differ, sum-agree}
use Rattle.signed.proofs.sum.Goals as goal
use Rattle.signed.proofs.sum.Goals.{then-differ, else-differ}

pub returns : goal.returns
returns c =
    elim c.if-differ.branch [
      | then-differ w ↦ sum-differ _ _ _ _ c.natural_difference-apart.ensures w.if-differ.true w.n-is
      | else-differ w ↦ sum-agree _ _ _ _ w.if-differ.false w.n-is
    ]
