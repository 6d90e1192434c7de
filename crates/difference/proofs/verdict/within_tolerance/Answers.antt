-- `difference::verdict::within_tolerance` meets its contract. Assumes nothing.
use mathlib.Core.Path.{refl}
use Rattle.difference.specs.Verdict.{within_tolerance}
use Rattle.difference.proofs.verdict.within_tolerance.Goals as goal

pub returns : goal.returns
unfolding within_tolerance
returns c = refl
