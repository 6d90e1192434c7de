-- `decimal::put_number` meets its contract. Assumes nothing.
use Rattle.decimal.proofs.WritingLaws.{number-written}
use Rattle.decimal.proofs.put_number.Goals as goal

pub returns : goal.returns
returns c =
    number-written _ c.digit_count.ensures.most c.digit_count.ensures.is c.put_last_digits-last.ensures c.put_byte.ensures
