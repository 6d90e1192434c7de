-- `buffer::equal` meets its contract. Assumes nothing.
use mathlib.Core.Path.{◌∙◌}
use Rattle.buffer.proofs.NumberLaws.{pointwise-same}
use Rattle.buffer.proofs.equal.Goals as goal

pub returns : goal.returns
returns c = c.eq.ensures ∙ pointwise-same _ _
