-- `buffer::parts::part_end` meets its contract: no byte up to i is b. Assumes nothing.
use Rattle.buffer.proofs.PartsLaws.{FreeUpTo}
use Rattle.buffer.proofs.parts.part_end.Given as goal

abbrev pub invariant-loop-i : goal.invariant-loop-i
invariant-loop-i l = FreeUpTo l.b l.bytes l.at l.i
