-- What a difference in lightness leaves of the tolerance for chroma and hue. Assumes nothing.
use mathlib.Core.Path.{◌≡◌, refl, sym}
use mathlib.Core.Logic.{◌⊎◌, inl, inr}
use Prim.Native.Nat.{ℕ, ◌+◌, ◌*◌, ◌/◌, ◌≤◌, ◌<◌}
use native.Mathlib.Nat.{le_trans, le_of_eq, mul-le-mul, mul-le-mul_left, le-div_iff_mul-le, div-mul-le_self}
use native.Mathlib.Decide.{dec_le}
use native.Mathlib.Omega.{arith}
use lib.IntN.{ℤ, nat_abs}
use Rattle.signed.proofs.Squares.{square_le, product_le}
use Rattle.sample.specs.Sample.{Sample}
use Rattle.sample.specs.Inner.{SampleIn, WeightsIn}
use Rattle.sample.specs.declared.FixedWeights.{FixedWeights}
use Rattle.weighting.specs.Weighting.{lightness_weight}
use Rattle.weighting.proofs.WeightingLaws.{lightness_weight-ge, lightness_weight-le}
use Rattle.difference.specs.Parts.{Parts, squared}
use Rattle.difference.specs.Pair.{lightness_difference}
use Rattle.difference.specs.Ciede2000.{figures_of, ciede2000_of}
use Rattle.difference.proofs.LightnessBound.{lightness-part}
use Rattle.near.specs.Inner.{left_tolerance}
use Rattle.near.proofs.PartsBound.{parts_within}

-- the size of the lightness part is at least 100 × (40,000 |dL| / (7 kL))
lightness-least : (d k sl : ℕ) → 5000 ≤ k → 1000000000 ≤ sl → sl ≤ 1750000000
    → 100 * (40000 * d / (7 * k)) ≤ d * 100000000000 / (k * sl / 10000)
lightness-least d k sl low ge le =
    let w : ℕ = k * sl / 10000 in
    let g : ℕ = 40000 * d / (7 * k) in
    let some : 0 < w = omega (arith, mul-le-mul low ge) in
    let most : w ≤ 175000 * k = omega (arith, mul-le-mul_left k le) in
    let down : g * (7 * k) ≤ 40000 * d = div-mul-le_self (40000 * d) (7 * k) in
    (le-div_iff_mul-le some).1 (from-facts w g most down (mul-le-mul_left (100 * g) most))
  where
    from-facts : (w g : ℕ) → w ≤ 175000 * k → g * (7 * k) ≤ 40000 * d → 100 * g * w ≤ 100 * g * (175000 * k)
        → 100 * g * w ≤ d * 100000000000
    from-facts w g a b c = omega arith

-- 5 D ≤ 4 e + 3 g gives D² ≤ e² + g²
hypotenuse : (d e g : ℕ) → 5 * d ≤ 4 * e + 3 * g → d * d ≤ e * e + g * g
hypotenuse d e g h = omega (arith, square_le h, product_le (3 * e) (4 * g))

left-squares : (l q g τ σ : ℕ) → g ≤ l → 121 * (l * l) + 16 * q < 121 * ((100 * τ + 1) * (100 * τ + 1))
    → 5 * (100 * τ + 1) ≤ 4 * (100 * σ + 1) + 3 * g
    → 16 * q < 121 * ((100 * σ + 1) * (100 * σ + 1))
left-squares l q g τ σ h a b = omega (arith, a, square_le h, hypotenuse (100 * τ + 1) (100 * σ + 1) g b)

less : (τ k d : ℕ) → (τ ≤ left_tolerance τ k d → ⊥)
    → 5 * (100 * τ + 1) ≤ 4 * (100 * left_tolerance τ k d + 1) + 3 * (100 * (40000 * d / (7 * k)))
unfolding left_tolerance
less τ k d f = omega (arith, f)

-- the share is no less than the whole tolerance, or as much as the two squares ask for
left-enough : (τ k d : ℕ)
    → (5 * (100 * τ + 1) ≤ 4 * (100 * left_tolerance τ k d + 1) + 3 * (100 * (40000 * d / (7 * k)))) ⊎ (τ ≤ left_tolerance τ k d)
left-enough τ k d = by-share (dec_le τ (left_tolerance τ k d))
  where
    by-share : Dec (τ ≤ left_tolerance τ k d)
        → (5 * (100 * τ + 1) ≤ 4 * (100 * left_tolerance τ k d + 1) + 3 * (100 * (40000 * d / (7 * k)))) ⊎ (τ ≤ left_tolerance τ k d)
    by-share (yes h) = inr h
    by-share (no f) = inl (less τ k d f)

square-of : (x : ℤ) → squared x ≡ nat_abs x * nat_abs x
unfolding squared
square-of x = refl

module _ (w : FixedWeights) (s t : Sample) (τ : ℕ) (hs : SampleIn s) (ht : SampleIn t) (v : WeightsIn w)
    (h : ciede2000_of w s t ≤ 100 * τ) where
  abbrev parts : Parts
  parts = (figures_of w s t).parts

  abbrev d : ℕ
  d = nat_abs (lightness_difference s t)

  abbrev spent : ℕ
  spent = 40000 * d / (7 * w.l)

  lightness : 100 * spent ≤ nat_abs parts.l
  lightness =
      le_trans
      (lightness-least d w.l (lightness_weight s.l t.l) v.l.low (lightness_weight-ge s.l t.l)
      (lightness_weight-le s.l t.l hs.l ht.l))
      (le_of_eq (sym (lightness-part w s t)))

  abbrev left : ℕ
  left = left_tolerance τ w.l d

  pub left-within : 16 * (squared parts.c + squared parts.h) < 121 * ((100 * left + 1) * (100 * left + 1))
  left-within = by-share (left-enough τ w.l d)
    where
      all : 121 * squared parts.l + 16 * (squared parts.c + squared parts.h) < 121 * ((100 * τ + 1) * (100 * τ + 1))
      all = parts_within w s t (100 * τ) h

      by-share : (5 * (100 * τ + 1) ≤ 4 * (100 * left + 1) + 3 * (100 * spent)) ⊎ (τ ≤ left)
          → 16 * (squared parts.c + squared parts.h) < 121 * ((100 * left + 1) * (100 * left + 1))
      by-share (inl e) = left-squares (nat_abs parts.l) _ (100 * spent) τ _ lightness (rw (square-of parts.l) at all) e
      by-share (inr e) = let m : 100 * τ + 1 ≤ 100 * left + 1 = omega arith in omega (arith, all, square_le m)
