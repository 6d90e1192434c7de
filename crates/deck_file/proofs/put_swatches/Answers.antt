-- `deck_file::put_swatches` meets its contract: the swatches before k are written. Assumes nothing.
use Prim.Native.Nat.{◌+◌, ◌*◌, ◌≤◌}
use native.Mathlib.Omega.{arith}
use mir.Syntax.{w32}
use mir.Val.{SFits}
use mir.Facts.{to_z-of_z}
use Rattle.std.proofs.Common.{rules}
use Rattle.places.specs.Places.{at}
use Rattle.buffer.proofs.WritingLaws.{written-append, written_none, written_is, written-most}
use Rattle.deck.specs.Deck.{columns_at}
use Rattle.deck_file.specs.Inner.{colour}
use Rattle.deck_file.proofs.Swatches.{ap₃, swatches-none, swatches-more}
use Rattle.deck_file.proofs.put_swatches.Goals as goal

pub loop-k-init : goal.loop-k-init
loop-k-init c = written_is (swatches-none _) (written_none _ _ 0)

pub loop-k-preserved : goal.loop-k-preserved
unfolding columns_at
loop-k-preserved c =
    let fits : 12 * c.loop-k.k + 12 ≤ 12 * (c.loop-k.k + 1) = omega arith in
    let l : SFits w32 (at c.args.l.now c.loop-k.k) = search rules in
    let a : SFits w32 (at c.args.a.now c.loop-k.k) = search rules in
    let b : SFits w32 (at c.args.b.now c.loop-k.k) = search rules in
    let here = ap₃ colour (to_z-of_z l) (to_z-of_z a) (to_z-of_z b) in
    let w = written-append c.loop-k.invariant c.put_swatch-end.ensures in
    written-most (written_is (swatches-more _ c.loop-k.k here) w) fits
