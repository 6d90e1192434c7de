-- `fixed_point::fixed_weights` meets its contract. Assumes nothing.
use Rattle.std.proofs.Common.{lit≤}
use Rattle.fixed_point.specs.Samples.{weights_of}
use Rattle.fixed_point.proofs.FixedLaws.{at_most-128, weight-size, weights-accepted}
use Rattle.fixed_point.proofs.fixed_weights.Goals as goal

pub fixed_size-requires : goal.fixed_size-requires
fixed_size-requires c = at_most-128 (lit≤ tt) (weight-size _ (weights-accepted _ c.requires).l)

pub fixed_size-requires-2 : goal.fixed_size-requires-2
fixed_size-requires-2 c = at_most-128 (lit≤ tt) (weight-size _ (weights-accepted _ c.requires).c)

pub fixed_size-requires-3 : goal.fixed_size-requires-3
fixed_size-requires-3 c = at_most-128 (lit≤ tt) (weight-size _ (weights-accepted _ c.requires).h)

pub returns : goal.returns
unfolding weights_of
returns c = λ i. record { l = c.fixed_size.ensures i; c = c.fixed_size-2.ensures i; h = c.fixed_size-3.ensures i }
