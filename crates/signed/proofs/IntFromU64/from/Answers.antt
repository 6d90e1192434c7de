-- `Int::from` of a natural number meets its contract. Assumes nothing.
use mathlib.Core.Path.{refl}
use Rattle.signed.specs.Inner.{int}
use Rattle.signed.proofs.IntFromU64.from.Goals as goal

pub returns : goal.returns
unfolding int
returns c = record { is = refl; size = refl }
