-- Of `measure::many::answer_pairs`: the pairs before this turn are answered, and the rest is as it was. Assumes nothing.
use Rattle.std.proofs.Common.{◌≡◌, ◌*◌, length}
use Rattle.measure.specs.Many.{results, Answered}
use Rattle.measure.specs.Inner.{rounded_pair}
use Rattle.measure.proofs.many.answer_pairs.Given as goal

abbrev pub invariant-loop-i : goal.invariant-loop-i
invariant-loop-i l =
    (length l.differences ≡ length l.initial.differences) × (length l.refusals ≡ length l.initial.refusals)
    × Answered (rounded_pair l.weights l.standards l.samples) (2 * l.i) (results l.initial.differences l.initial.refusals) (results l.differences l.refusals)
