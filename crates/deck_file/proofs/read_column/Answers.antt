-- `deck_file::read_column` meets its contract: the first k numbers are read, and the rest is as it was. Assumes nothing.
use mathlib.Core.Path.{refl}
use native.Mathlib.Omega.{arith}
use Rattle.places.specs.Places.{column_of}
use Rattle.places.proofs.Order.{read_back}
use Rattle.places.proofs.Columns.{column-more}
use Rattle.deck_file.proofs.read_column.Goals as goal

pub loop-k-init : goal.loop-k-init
unfolding column_of
loop-k-init c = refl

pub loop-k-preserved : goal.loop-k-preserved
loop-k-preserved c =
    let read = read_back c.i32_at.type_inv c.i32_at.ensures in
    column-more _ _ _ c.loop-k.k c.loop-k.invariant (omega arith) read
