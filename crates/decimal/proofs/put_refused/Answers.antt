-- `decimal::put_refused` meets its contract. Assumes nothing.
use Rattle.buffer.proofs.WritingLaws.{written-append}
use Rattle.decimal.specs.Writing.{refused_text}
use Rattle.decimal.proofs.put_refused.Goals as goal

pub returns : goal.returns
unfolding refused_text
returns c =
    written-append c.put_bytes-number.ensures c.put_number.ensures
