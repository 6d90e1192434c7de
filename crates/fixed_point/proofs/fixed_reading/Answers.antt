-- `fixed_point::fixed_reading` meets its contract. Assumes nothing.
use Rattle.std.proofs.Common.{lit≤}
use Rattle.sample.specs.Inner.{lab_of}
use Rattle.fixed_point.specs.Samples.{sample_of}
use Rattle.fixed_point.proofs.FixedLaws.{at_most-128, lightness-size, opponent-size, reading-accepted, lab_within}
use Rattle.fixed_point.proofs.fixed_reading.Goals as goal

pub fixed_size-requires : goal.fixed_size-requires
fixed_size-requires c = at_most-128 (lit≤ tt) (lightness-size _ (reading-accepted _ c.requires).l)

pub fixed-requires : goal.fixed-requires
fixed-requires c = opponent-size _ (reading-accepted _ c.requires).a

pub fixed-requires-2 : goal.fixed-requires-2
fixed-requires-2 c = opponent-size _ (reading-accepted _ c.requires).b

pub returns : goal.returns
unfolding lab_of sample_of
returns c = λ i. record { l = c.fixed_size.ensures i; a = c.fixed.ensures i; b = c.fixed-2.ensures i }

pub invariant_of-result : goal.invariant_of-result
invariant_of-result c =
    let within = lab_within c.args.r _ _ c.requires c.fixed_size.ensures c.fixed.ensures c.fixed-2.ensures in
    record { l_within = within.0; a_within = within.1; b_within = within.2 }
