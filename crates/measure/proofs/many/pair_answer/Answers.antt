-- `measure::many::pair_answer` meets its contract. Assumes nothing.
use mathlib.Core.Path.{◌∙◌}
use Rattle.measure.proofs.Answering.{accepted-rounded}
use Rattle.measure.proofs.many.pair_answer.Goals as goal

pub returns : goal.returns
returns c = c.answer.ensures ∙ accepted-rounded _ _ _ _ c.accepted.ensures.refusal c.accepted.ensures.accepted
