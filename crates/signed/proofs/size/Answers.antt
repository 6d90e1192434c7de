-- `signed::size` meets its contract. Assumes nothing.
use mathlib.Core.Path.{refl, sym}
use Rattle.signed.proofs.SignedLaws.{int-size}
use Rattle.signed.proofs.size.Goals as goal

pub returns : goal.returns
returns c = record { is = sym (int-size _); size = refl }
