-- `deck_file::put_swatch` meets its contract. Assumes nothing.
use mathlib.Core.Path.{ap}
use mir.Facts.{to_z-of_z}
use Rattle.buffer.specs.Numbers.{signed_bytes}
use Rattle.buffer.proofs.WritingLaws.{written-append, written_is}
use Rattle.deck_file.specs.Layout.{swatch_bytes}
use Rattle.deck_file.proofs.put_swatch.Goals as goal

pub returns : goal.returns
unfolding swatch_bytes
returns c =
    let l = written_is (ap signed_bytes (to_z-of_z c.ranges.l)) c.put_i32-second.ensures in
    let a = written_is (ap signed_bytes (to_z-of_z c.ranges.a)) c.put_i32-third.ensures in
    let b = written_is (ap signed_bytes (to_z-of_z c.ranges.b)) c.put_i32.ensures in
    written-append l (written-append a b)
