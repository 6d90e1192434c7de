-- `difference::prepared::Prepared::of` meets its contract. Assumes nothing.
use Rattle.signed.specs.Inner.{int}
use Rattle.sample.specs.Inner.{lab_of}
use Rattle.difference.specs.Inner.{prepared_sample}
use Rattle.difference.proofs.prepared.Prepared.of.Goals as goal

pub returns : goal.returns
unfolding prepared_sample lab_of
returns c = λ i. record { l = c.args.s.l; a = int (c.of.ensures.0 i); b = int (c.of.ensures.1 i) }
