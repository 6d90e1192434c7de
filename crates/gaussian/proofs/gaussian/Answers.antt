-- `gaussian::gaussian` meets its contract: what it reads from the table are two entries next to each other.
-- Assumes nothing.
use mathlib.Core.Path.{sym, ◌∙◌}
use native.Mathlib.Omega.{arith}
use Rattle.gaussian.proofs.GaussianLaws.{gaussian-beyond}
use Rattle.gaussian.proofs.Neighbours.{neighbours-in, between_is}
use Rattle.gaussian.proofs.gaussian.Goals as goal

pub returns-then-distance-ge-END : goal.returns-then-distance-ge-END
returns-then-distance-ge-END c = sym (gaussian-beyond _ (omega arith))

pub between-requires-clause-entry_bounds : goal.between-requires-clause-entry_bounds
between-requires-clause-entry_bounds c = neighbours-in _ _ _ c.if-distance-ge-END.false (grind arith) (grind arith)

pub returns : goal.returns
returns c = c.between.ensures ∙ between_is _ _ _ c.if-distance-ge-END.false (grind arith) (grind arith)
