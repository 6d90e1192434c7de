-- `lab_text::rows::read_rows` meets its contract. Assumes nothing.
use mathlib.Core.Path.{◌≡◌}
use Prim.Native.Nat.{◌+◌, ◌-◌, ◌≤◌}
use lib.ListN.{length}
use Rattle.buffer.specs.Inner.{parts_from}
use Rattle.lab_text.proofs.RowLaws.{SoFar}
use Rattle.lab_text.proofs.rows.read_rows.Given as goal

abbrev pub invariant-loop-at : goal.invariant-loop-at
invariant-loop-at l = (l.count ≤ l.at) × (length l.swatches ≡ 4096)
    × SoFar l.o (parts_from 10 l.text l.first) (parts_from 10 l.text l.at) l.swatches l.right l.within l.count

abbrev pub decreases-loop-at : goal.decreases-loop-at
decreases-loop-at l = length l.text + 1 - l.at
