-- `fixed_point::half` meets its contract. Assumes nothing.
use Rattle.std.proofs.Common.{refl}
use Rattle.fixed_point.specs.Rounding.{half_of}
use Rattle.fixed_point.proofs.half.Goals as goal

pub returns : goal.returns
unfolding half_of
returns c = refl
