-- `measure::double` meets its contract. Assumes nothing.
use mathlib.Core.Path.{refl}
use lib.Ieee.{of_bits, of_int}
use Rattle.measure.specs.Answers.{double_of}
use Rattle.measure.proofs.double.Goals as goal

pub returns : goal.returns
unfolding of_bits of_int double_of
returns c = refl
