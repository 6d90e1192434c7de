-- `buffer::parts::part_end` meets its contract: no byte up to i is b. Assumes nothing.
use mathlib.Core.Path.{◌≡◌, refl}
use native.Mathlib.Omega.{arith}
use lib.ListN.{length}
use Rattle.buffer.proofs.PartsLaws.{ends_at, ends_last}
use Rattle.buffer.proofs.parts.part_end.Goals as goal

pub returns-then-bytes-i : goal.returns-then-bytes-i
returns-then-bytes-i c =
    ends_at _ _ _ c.loop-i.i (omega arith) (omega arith) c.loop-i.invariant (omega arith) c.if-bytes-i.true

pub returns : goal.returns
returns c =
    let end : c.loop-i.i ≡ length c.args.bytes.now = omega arith in
    ends_last _ _ _ _ c.requires (omega arith) (rw end at c.loop-i.invariant) refl
