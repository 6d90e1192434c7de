-- `fixed_point::fixed_tolerance` meets its contract. Assumes nothing.
use Rattle.std.proofs.Common.{lit≤}
use Rattle.fixed_point.proofs.FixedLaws.{at_most-128, lightness-size, tolerance-accepted}
use Rattle.fixed_point.proofs.fixed_tolerance.Goals as goal

pub fixed_size-requires : goal.fixed_size-requires
fixed_size-requires c = at_most-128 (lit≤ tt) (lightness-size _ (tolerance-accepted _ c.requires))
