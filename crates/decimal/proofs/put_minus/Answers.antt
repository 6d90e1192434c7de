-- `decimal::put_minus` meets its contract. Assumes nothing.
use Rattle.buffer.proofs.WritingLaws.{written_is, written_none}
use Rattle.decimal.proofs.WritingLaws.{minus-zero, minus-negative, minus-positive}
use Rattle.decimal.proofs.put_minus.Goals as goal
use Rattle.decimal.proofs.put_minus.Goals.{else-v-via-then-v+else-v-ne0, else-v-via-else-v}

pub returns-then-v-ne0 : goal.returns-then-v-ne0
returns-then-v-ne0 c =
    written_is (minus-negative _ c.if-v-ne0.true c.if-v.true) c.put_byte.ensures

pub returns-else-v : goal.returns-else-v
returns-else-v c =
    written_is
    (elim c.else-v.branch [
      | else-v-via-then-v+else-v-ne0 w ↦ minus-zero _ w.if-v-ne0.false
      | else-v-via-else-v w ↦ minus-positive _ w.if-v.false
    ])
    (written_none _ _ 1)
