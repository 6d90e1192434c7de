-- `buffer::i32_at` meets its contract. Assumes nothing.
use mathlib.Core.Path.{refl, ap, ◌∙◌}
use borrow.Author.Rules.{sfits_of}
use mir.Syntax.{w32}
use mir.Val.{to_z}
use mir.Facts.{to_z-of_z}
use Prim.Native.Nat.{◌+◌}
use native.Mathlib.Omega.{arith}
use Rattle.buffer.specs.Numbers.{signed_of}
use Rattle.buffer.proofs.NumberLaws.{unsigned-cons, unsigned-none}
use Rattle.buffer.proofs.i32_at.Goals as goal

pub returns : goal.returns
unfolding signed_of
returns c =
    let bytes = c.args.bytes.now in
    let at = c.args.at in
    let first = unsigned-cons bytes at _ 3 refl (omega arith) in
    let second = unsigned-cons bytes (at + 1) (at + 2) 2 (omega arith) (omega arith) in
    let third = unsigned-cons bytes (at + 2) (at + 3) 1 (omega arith) (omega arith) in
    let fourth = unsigned-cons bytes (at + 3) (at + 4) 0 (omega arith) (omega arith) in
    to_z-of_z {w = w32} (sfits_of c.from_le_bytes.type_inv) ∙ c.from_le_bytes.ensures
    ∙ ap (to_z w32) (omega (arith, first, second, third, fourth, unsigned-none bytes (at + 4)))
