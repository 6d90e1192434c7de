-- `measure::many::reading_at` meets its contract. Assumes nothing.
use mathlib.Core.Path.{refl}
use Rattle.measure.specs.Many.{reading_at}
use Rattle.measure.proofs.many.reading_at.Goals as goal

pub returns : goal.returns
unfolding reading_at
returns c = refl
