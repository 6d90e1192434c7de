-- The parts of CIEDE2000 against the whole. The rotation term R is at most 1.7355372, so that what is under the root of step 12 is at least
-- l² and 16/121 of c² + h²: a difference of at most d bounds the three parts.
-- Assumes nothing.
use mathlib.Core.Path.{◌≡◌, ap}
use Prim.Native.Nat.{ℕ, ◌+◌, ◌*◌, ◌/◌, ◌≤◌, ◌<◌}
use native.Mathlib.Nat.{le_trans, mul-le-mul_left}
use native.Mathlib.Omega.{arith}
use lib.Dec.{lit≤}
use lib.IntN.{nat_abs}
use Rattle.isqrt.proofs.RootLaws.{root-lt-next}
use Rattle.signed.proofs.Squares.{square_le, product_le}
use Rattle.sample.specs.Sample.{Sample}
use Rattle.sample.specs.declared.FixedWeights.{FixedWeights}
use Rattle.chroma.proofs.ChromaLaws.{ratio-le}
use Rattle.weighting.proofs.RotationBound.{rotation-below}
use Rattle.difference.specs.Parts.{Parts, squared, sum_of, combined}
use Rattle.difference.specs.Pair.{terms_of}
use Rattle.difference.specs.Ciede2000.{terms00_of, figures_from, figures_of, ciede2000_of}
use Rattle.difference.proofs.LightnessBound.{sum-not-negative}

-- 121 |c| (|h| R / 10^9) is at most 105 (c² + h²)
turn_below : (x y r : ℕ) → r ≤ 1735537190 → 121 * (x * (y * r / 1000000000)) ≤ 105 * (x * x + y * y)
turn_below x y r k =
    let q : 121 * (y * r / 1000000000) ≤ 210 * y = omega (arith, mul-le-mul_left y k) in
    omega (arith, mul-le-mul_left x q, product_le x y)

under-root : (p : Parts) (r : ℕ) → r ≤ 1735537190
    → 121 * squared p.l + 16 * (squared p.c + squared p.h) ≤ 121 * nat_abs (sum_of p r)
unfolding squared
under-root p r k =
    let u = sum-not-negative p r (le_trans k (lit≤ tt)) in
    let v : nat_abs (sum_of p r) ≡ u.value = ap nat_abs u.is in
    omega (arith, v, u.turned, turn_below (nat_abs p.c) (nat_abs p.h) r k)

-- where the root is at most d
combined-within : (p : Parts) (r d : ℕ) → combined p r ≤ d → nat_abs (sum_of p r) < (d + 1) * (d + 1)
unfolding combined
combined-within p r d h =
    let m : combined p r + 1 ≤ d + 1 = omega arith in
    omega (arith, root-lt-next (nat_abs (sum_of p r)), square_le m)

rotation-in : (w : FixedWeights) (s t : Sample) → (figures_of w s t).terms.r ≤ 1735537190
unfolding figures_of figures_from terms00_of terms_of
rotation-in w s t = rotation-below _ _ (ratio-le _)

-- a CIEDE2000 of at most d bounds its parts
pub parts_within : (w : FixedWeights) (s t : Sample) (d : ℕ) → ciede2000_of w s t ≤ d
    → 121 * squared (figures_of w s t).parts.l + 16 * (squared (figures_of w s t).parts.c + squared (figures_of w s t).parts.h)
    < 121 * ((d + 1) * (d + 1))
unfolding ciede2000_of figures_of figures_from
parts_within w s t d h =
    let p = (figures_of w s t).parts in
    let r = (figures_of w s t).terms.r in
    let v : nat_abs (sum_of p r) < (d + 1) * (d + 1) = combined-within p r d h in
    omega (arith, under-root p r (rotation-in w s t))
