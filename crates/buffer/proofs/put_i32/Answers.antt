-- `buffer::put_i32` meets its contract. Assumes nothing.
use mathlib.Core.Path.{ap, ◌∙◌}
use mir.Syntax.{w32}
use mir.Val.{of_z}
use mir.Facts.{to_z-of_z}
use Rattle.buffer.specs.Numbers.{bytes_of, signed_bytes}
use Rattle.buffer.proofs.NumberLaws.{le-bytes-four}
use Rattle.buffer.proofs.WritingLaws.{written_is}
use Rattle.buffer.proofs.put_i32.Goals as goal

pub returns : goal.returns
unfolding signed_bytes
returns c =
    let back = ap (λ z. bytes_of 4 (of_z w32 z)) (to_z-of_z c.ranges.x) in
    written_is (le-bytes-four _ ∙ back) (rw c.to_le_bytes.ensures at c.put_bytes.ensures)
