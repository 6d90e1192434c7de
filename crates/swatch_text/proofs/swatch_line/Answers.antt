-- `swatch_text::swatch_line` meets its contract. Assumes nothing.
use lib.Dec.{lit≤}
use Rattle.buffer.proofs.WritingLaws.{written-take}
use Rattle.swatch_text.proofs.swatch_line.Goals as goal

pub returns : goal.returns
returns c = rw (c.new.ensures.0, c.new.ensures.1) (written-take (lit≤ tt) c.put_swatch-len.ensures)
