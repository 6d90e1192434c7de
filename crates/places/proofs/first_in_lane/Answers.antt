-- `places::first_in_lane` meets its contract: lo and hi keep the answer between them, and a turn brings them nearer.
-- Assumes nothing.
use native.Mathlib.Omega.{arith}
use mir.Facts.{to_z-of_z}
use Rattle.places.proofs.Order.{read_back}
use Rattle.places.proofs.Steps.{bracket-whole, bracket-met, bracket-upper, bracket-lower}
use Rattle.places.proofs.first_in_lane.Goals as goal

pub loop-lo-init : goal.loop-lo-init
loop-lo-init c = bracket-whole _ _ _

pub entry-requires : goal.entry-requires
entry-requires c = c.requires.spans _ (omega arith)

pub loop-lo-preserved-then-entry-bound : goal.loop-lo-preserved-then-entry-bound
loop-lo-preserved-then-entry-bound c =
    bracket-upper _ _ _ c.requires.rises _ _ _ c.loop-lo.invariant (omega arith) (omega arith)
    (read_back c.entry.type_inv c.entry.ensures) c.if-entry-bound.true

pub loop-lo-preserved : goal.loop-lo-preserved
loop-lo-preserved c =
    bracket-lower _ _ _ c.requires.rises _ _ _ c.loop-lo.invariant (omega arith) (omega arith)
    (read_back c.entry.type_inv c.entry.ensures) c.if-entry-bound.false

pub returns : goal.returns
returns c =
    rw (to_z-of_z c.ranges.bound) at
    (bracket-met _ _ _ _ _ c.loop-lo.invariant c.loop-lo-test.false)
