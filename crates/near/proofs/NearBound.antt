-- Samples whose CIEDE2000 is within a tolerance are near to each other in a and b: what lets a search pass over most swatches without the
-- working.
-- Assumes nothing.
use mathlib.Core.Path.{◌≡◌}
use mathlib.Core.Bool.{true}
use Prim.Native.Nat.{ℕ, ◌*◌, ◌≤◌, ◌<◌, max}
use native.Mathlib.Nat.{lt_of_not-le, le-max_left, le-max_right}
use borrow.Author.Tests.{ltb-true}
use native.Mathlib.Omega.{arith}
use lib.IntN.{nat_abs}
use Rattle.sample.specs.Sample.{Sample}
use Rattle.sample.specs.Inner.{SampleIn, WeightsIn}
use Rattle.sample.specs.declared.FixedWeights.{FixedWeights}
use Rattle.difference.specs.Pair.{lightness_difference}
use Rattle.difference.specs.Ciede2000.{ciede2000_of}
use Rattle.near.specs.Inner.{chromas_most, left_tolerance, distance_square, near_radius, beyond_radius}
use Rattle.near.proofs.RadiusBound.{near-bound}
use Rattle.near.proofs.ChromaBound.{chromas-most}
use Rattle.near.proofs.LightnessShare.{left-within}

-- where CIEDE2000 of accepted samples is within the tolerance τ, they are no further apart in a and b than the radius
near : (w : FixedWeights) (s t : Sample) (τ : ℕ) → SampleIn s → SampleIn t → WeightsIn w
    → ciede2000_of w s t ≤ 100 * τ
    → distance_square s t ≤ near_radius w.l (max w.c w.h) τ s t * near_radius w.l (max w.c w.h) τ s t
unfolding near_radius
near w s t τ hs ht v h =
    near-bound w s t hs ht v (left_tolerance τ w.l (nat_abs (lightness_difference s t))) (max w.c w.h) (chromas_most s t)
    (le-max_left w.c w.h) (le-max_right w.c w.h) (chromas-most s t) (left-within w s t τ hs ht v h)

-- As a search uses it: beyond the radius CIEDE2000 is beyond the tolerance
pub beyond-radius : (w : FixedWeights) (s t : Sample) (τ : ℕ) → SampleIn s → SampleIn t → WeightsIn w
    → beyond_radius w.l (max w.c w.h) τ s t ≡ true → 100 * τ < ciede2000_of w s t
unfolding beyond_radius
beyond-radius w s t τ p q v e = lt_of_not-le (λ within. omega (arith, ltb-true, near w s t τ p q v within))
