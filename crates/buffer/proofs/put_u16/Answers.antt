-- `buffer::put_u16` meets its contract. Assumes nothing.
use Rattle.buffer.proofs.NumberLaws.{le-bytes-two}
use Rattle.buffer.proofs.WritingLaws.{written_is}
use Rattle.buffer.proofs.put_u16.Goals as goal

pub returns : goal.returns
returns c = written_is (le-bytes-two c.args.n) (rw c.to_le_bytes.ensures at c.put_bytes.ensures)
