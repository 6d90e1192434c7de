-- `deck_file::put_swatches` meets its contract: the swatches before k are written. Assumes nothing.
use Prim.Native.Nat.{◌*◌}
use Rattle.buffer.specs.Writing.{Written}
use Rattle.deck.specs.Deck.{columns_at}
use Rattle.deck_file.specs.Layout.{swatches_bytes}
use Rattle.deck_file.proofs.put_swatches.Given as goal

abbrev pub invariant-loop-k : goal.invariant-loop-k
invariant-loop-k l = Written l.initial.file l.at (swatches_bytes (columns_at l.l l.a l.b) l.k) (12 * l.k) l.file l.end
