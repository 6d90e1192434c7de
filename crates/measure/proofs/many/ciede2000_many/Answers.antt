-- `measure::many::ciede2000_many` meets its contract. Assumes nothing.
use mathlib.Core.Path.{ap₂, ◌∙◌}
use Prim.Native.Nat.{min}
use Rattle.measure.specs.Many.{pair_count}
use Rattle.measure.proofs.Answering.{answered-rounded}
use Rattle.measure.proofs.many.ciede2000_many.Goals as goal

pub returns-clause-answers : goal.returns-clause-answers
unfolding pair_count
returns-clause-answers c = record {
  pairs = c.min-n.ensures ∙ ap₂ min c.min-colours.ensures c.min-room.ensures;
  answered = answered-rounded _ _ _ _ _ _ _ c.rounded.ensures.refusal c.rounded.ensures.weights c.answer_pairs.ensures;
}
