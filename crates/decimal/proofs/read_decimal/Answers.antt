-- `decimal::read_decimal` meets its contract. Assumes nothing.
use mathlib.Core.Path.{◌∙◌}
use Rattle.decimal.proofs.ReadingLaws.{decimal-minus, decimal-plain}
use Rattle.decimal.proofs.read_decimal.Goals as goal

pub returns-in-Some-clause-value : goal.returns-in-Some-clause-value
returns-in-Some-clause-value c = c.read_size.ensures.value ∙ decimal-minus _ c.in-Some.ensures.0 c.in-Some.ensures.1

pub returns-in-None-clause-value : goal.returns-in-None-clause-value
returns-in-None-clause-value c = c.read_size-in-None.ensures.value ∙ decimal-plain _ c.in-None.ensures
