-- CIEDE2000 is never less than its lightness part, so that a difference within a tolerance bounds the difference of the
-- lightnesses: what a search of a deck that
-- is sorted by lightness relies on. On the way: what is under the root of step 12 is never negative.
-- Assumes nothing.
use mathlib.Core.Path.{◌≡◌, refl, sym, ap, ◌∙◌}
use Prim.Native.Nat.{ℕ, suc, ◌+◌, ◌-◌, ◌*◌, ◌/◌, ◌≤◌, ◌<◌}
use native.Mathlib.Nat.{le_trans, le_of_eq, lt_of_not-le, not-le_of_lt, mul-le-mul, mul-le-mul_left, lt-div-mul-add}
use native.Mathlib.Omega.{arith}
use lib.IntN.{ℤ, pos, negsuc, nat_abs, ◌-ℤ◌, ◌*ℤ◌}
use lib.Signed.{quot_z}
use Rattle.isqrt.proofs.RootLaws.{root-largest}
use Rattle.signed.specs.Inner.{int}
use Rattle.signed.proofs.SignedLaws.{nat_abs_mul, nat_abs-quot}
use Rattle.signed.proofs.Results.{apart-down}
use Rattle.signed.proofs.Squares.{product_le}
use Rattle.sample.specs.Sample.{Sample}
use Rattle.sample.specs.Inner.{SampleIn, WeightsIn}
use Rattle.sample.specs.declared.FixedWeights.{FixedWeights}
use Rattle.chroma.proofs.ChromaLaws.{ratio-le}
use Rattle.weighting.specs.Weighting.{lightness_weight}
use Rattle.weighting.proofs.WeightingLaws.{lightness_weight-ge, lightness_weight-le, rotation-le}
use Rattle.difference.specs.Parts.{Parts, weighted, part_of, parts_of, squared, sum_of, combined}
use Rattle.difference.specs.Pair.{terms_of, lightness_difference}
use Rattle.difference.specs.Ciede2000.{terms00_of, parts00_of, figures_from, figures_of, ciede2000_of}

-- ---- what is under the root

-- z is a natural number that is at most e from s
record Near (s e : ℕ) (z : ℤ) : Type 0 where
  value : ℕ
  is : z ≡ pos value
  low : s ≤ value + e
  high : value ≤ s + e

-- s less a number that is no larger in size
less : (s : ℕ) (t : ℤ) → nat_abs t ≤ s → Near s (nat_abs t) (pos s -ℤ t)
unfolding int
less s (pos n) h = record { value = s - n; is = sym (apart-down s n h).is; low = omega arith; high = omega arith }
less s (negsuc n) h = record { value = s + suc n; is = refl; low = omega arith; high = omega arith }

-- the size of c × (h × R / 10^9)
turn-size : (c h : ℤ) (r : ℕ) → nat_abs (c *ℤ quot_z (h *ℤ pos r) (pos 1000000000)) ≡ nat_abs c * (nat_abs h * r / 1000000000)
turn-size c h r =
    nat_abs_mul c _ ∙ ap (λ n. nat_abs c * n) (nat_abs-quot (h *ℤ pos r) 1000000000 ∙ ap (λ n. n / 1000000000) (nat_abs_mul h (pos r)))

turn-le : (c h : ℤ) (r : ℕ) → r ≤ 2000000000 → nat_abs (c *ℤ quot_z (h *ℤ pos r) (pos 1000000000)) ≤ 2 * (nat_abs c * nat_abs h)
turn-le c h r k =
    let twice : nat_abs h * r / 1000000000 ≤ 2 * nat_abs h = omega (arith, mul-le-mul_left (nat_abs h) k) in
    omega (arith, turn-size c h r, mul-le-mul_left (nat_abs c) twice)

-- what is under the root is the natural number `value`: at least l², at least the three squares less |c| × (|h| × R / 10^9), and at most
-- l² + (|c| + |h|)²
pub record UnderRoot (p : Parts) (r : ℕ) : Type 0 where
  pub value : ℕ
  pub is : sum_of p r ≡ pos value
  pub least : squared p.l ≤ value
  pub turned : squared p.l + squared p.c + squared p.h ≤ value + nat_abs p.c * (nat_abs p.h * r / 1000000000)
  pub most : value ≤ squared p.l + (nat_abs p.c + nat_abs p.h) * (nat_abs p.c + nat_abs p.h)

-- l² + c² + h² - c × (h × R / 10^9) is not negative, and not less than l², for all parts and an R of at most 2 × 10^9
pub sum-not-negative : (p : Parts) (r : ℕ) → r ≤ 2000000000 → UnderRoot p r
unfolding sum_of squared
sum-not-negative p r k =
    let x : ℕ = nat_abs p.c in
    let y : ℕ = nat_abs p.h in
    let turn : nat_abs (p.c *ℤ quot_z (p.h *ℤ pos r) (pos 1000000000)) ≤ 2 * (x * y) = turn-le p.c p.h r k in
    let double : 2 * (x * y) ≤ x * x + y * y = product_le x y in
    let n = less (nat_abs p.l * nat_abs p.l + x * x + y * y) (p.c *ℤ quot_z (p.h *ℤ pos r) (pos 1000000000)) (omega arith) in
    record {
      value = n.value;
      is = n.is;
      least = omega (arith, n.low);
      turned = le_trans n.low (le_of_eq (ap (λ (e : ℕ). n.value + e) (turn-size p.c p.h r)));
      most = omega (arith, n.high);
    }

-- so the root is at least |l|
pub combined-ge : (p : Parts) (r : ℕ) → r ≤ 2000000000 → nat_abs p.l ≤ combined p r
unfolding combined squared
combined-ge p r k =
    let u = sum-not-negative p r k in
    root-largest _ (nat_abs p.l) (le_trans u.least (le_of_eq (sym (ap nat_abs u.is))))

-- R is at most 2 × 10^9 in every pair
pub rotation-in : (w : FixedWeights) (s t : Sample) → (figures_of w s t).terms.r ≤ 2000000000
unfolding figures_of figures_from terms00_of terms_of
rotation-in w s t = rotation-le _ _ (ratio-le _)

-- CIEDE2000 is at least the size of its lightness part, for all samples and all weights
pub at-least-lightness : (w : FixedWeights) (s t : Sample) → nat_abs (figures_of w s t).parts.l ≤ ciede2000_of w s t
unfolding ciede2000_of figures_of figures_from
at-least-lightness w s t = combined-ge (figures_of w s t).parts (figures_of w s t).terms.r (rotation-in w s t)

-- ---- the lightness part

-- |d| × scale / W
pub part-size : (d : ℤ) (scale w : ℕ) → nat_abs (part_of d scale w) ≡ nat_abs d * scale / w
unfolding part_of
part-size d scale w = nat_abs-quot (d *ℤ pos scale) w ∙ ap (λ n. n / w) (nat_abs_mul d (pos scale))

-- |l| = |dL| × 10^11 / (kL SL / 10^4)
pub lightness-part : (w : FixedWeights) (s t : Sample)
    → nat_abs (figures_of w s t).parts.l ≡ nat_abs (lightness_difference s t) * 100000000000 / (w.l * lightness_weight s.l t.l / 10000)
unfolding figures_of figures_from parts00_of parts_of terms00_of terms_of weighted
lightness-part w s t = part-size (lightness_difference s t) 100000000000 _

-- of any size d of dL, weight k and SL: W is at most 175000 k, and d × 10^11 is below (100 τ + 1) W
bound : (d k sl τ : ℕ) → 5000 ≤ k → 1000000000 ≤ sl → sl ≤ 1750000000 → d * 100000000000 / (k * sl / 10000) ≤ 100 * τ
    → 40000 * d ≤ 7 * k * (τ + 1)
bound d k sl τ k-low low high h =
    let w : ℕ = k * sl / 10000 in
    let some : 0 < w = omega (arith, mul-le-mul k-low low) in
    let most : w ≤ 175000 * k = omega (arith, mul-le-mul_left k high) in
    let below : d * 100000000000 < d * 100000000000 / w * w + w = lt-div-mul-add some in
    let times : d * 100000000000 / w * w ≤ 100 * τ * (175000 * k) = mul-le-mul h most in
    omega arith

-- The lightness bound: where CIEDE2000 of accepted samples is within the tolerance τ (in 1/10,000), 40,000 |dL| is at most 7 kL (τ + 1)
pub lightness-bound : (w : FixedWeights) (s t : Sample) (τ : ℕ) → SampleIn s → SampleIn t → WeightsIn w
    → ciede2000_of w s t ≤ 100 * τ → 40000 * nat_abs (lightness_difference s t) ≤ 7 * w.l * (τ + 1)
lightness-bound w s t τ p q v h =
    bound (nat_abs (lightness_difference s t)) w.l (lightness_weight s.l t.l) τ v.l.low
    (lightness_weight-ge s.l t.l) (lightness_weight-le s.l t.l p.l q.l)
    (le_trans (le_of_eq (sym (lightness-part w s t))) (le_trans (at-least-lightness w s t) h))

-- As a search uses it: where |dL| is beyond the bound, CIEDE2000 is beyond the tolerance
pub beyond-tolerance : (w : FixedWeights) (s t : Sample) (τ : ℕ) → SampleIn s → SampleIn t → WeightsIn w
    → 7 * w.l * (τ + 1) < 40000 * nat_abs (lightness_difference s t) → 100 * τ < ciede2000_of w s t
beyond-tolerance w s t τ p q v h = lt_of_not-le (λ within. not-le_of_lt h (lightness-bound w s t τ p q v within))
