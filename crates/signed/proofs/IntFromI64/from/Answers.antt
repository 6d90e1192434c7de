-- The machine reads x back from its bits.
use mir.Syntax.{w64}
use mir.ValLaws.{to_z-of_z}
use Rattle.signed.proofs.Border.{of_int, of-read}
use Rattle.signed.proofs.IntFromI64.from.Goals as goal

pub returns : goal.returns
returns c = of-read (to_z-of_z w64 _ c.ranges.x) (rw c.unsigned_abs.ensures.value (of_int _))
