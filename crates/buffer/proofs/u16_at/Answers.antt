-- `buffer::u16_at` meets its contract. Assumes nothing.
use mathlib.Core.Path.{refl}
use Prim.Native.Nat.{◌+◌}
use native.Mathlib.Omega.{arith}
use Rattle.buffer.proofs.NumberLaws.{unsigned-cons, unsigned-none}
use Rattle.buffer.proofs.u16_at.Goals as goal

pub returns : goal.returns
returns c =
    let bytes = c.args.bytes.now in
    let at = c.args.at in
    omega (
      arith,
      c.from_le_bytes.ensures,
      unsigned-cons bytes at _ 1 refl (omega arith),
      unsigned-cons bytes (at + 1) (at + 2) 0 (omega arith) (omega arith),
      unsigned-none bytes (at + 2),
    )
