-- `deck_file::put_header` meets its contract. Assumes nothing.
use Rattle.buffer.proofs.WritingLaws.{written-append}
use Rattle.deck_file.specs.Layout.{header_bytes}
use Rattle.deck_file.proofs.put_header.Goals as goal

pub returns : goal.returns
unfolding header_bytes
returns c =
    written-append c.put_bytes-version.ensures (written-append c.put_u16-number.ensures c.put_u16.ensures)
