-- `signed::to_i64` meets its contract. Assumes nothing.
use Rattle.signed.proofs.Border.{minus_is, plus-is}
use Rattle.signed.proofs.to_i64.Goals as goal

pub returns-then-a : goal.returns-then-a
returns-then-a c = search (minus_is)

pub returns : goal.returns
returns c = search (plus-is)
