-- How far apart in a and b two samples within a tolerance can be, found without the working.
-- Weights, tolerances and distances are in 1/10,000, chromas in 10^-7.
-- Assumes nothing.
use Rattle.std.specs.Prelude.{◌≡◌, Bool, cond, ℕ, ◌+◌, ◌-◌, ◌*◌, ◌/◌, ◌≤◌, max, min, ltb, nat_abs, ◌-ℤ◌}
use Rattle.sample.specs.Sample.{Sample}
use Rattle.sample.specs.Inner.{WeightIn}
use Rattle.difference.specs.Parts.{squared}
use Rattle.difference.specs.Pair.{lightness_difference}

-- ---- the radius, of the tolerance, the greater weight k of chroma and hue, and a bound n of C1' + C2'

-- the chroma part and the hue part together are at most this, in 10^-6: 2.75 times the tolerance, and what the divisions drop
unfoldable pub parts_most : ℕ → ℕ
parts_most tolerance = 275 * tolerance + 6

-- the same times k
unfoldable pub allowance : ℕ → ℕ → ℕ
allowance tolerance k = parts_most tolerance * k / 10000 + 1

-- a bound of SC and SH, in 1/1,000
unfoldable pub weight_most : ℕ → ℕ
weight_most n = 1001 + 9 * n / 4000000

unfoldable pub radius_of : ℕ → ℕ → ℕ → ℕ
radius_of tolerance k n = allowance tolerance k * weight_most n / 100000 + 119

-- ---- a bound of C' without a root

-- the greater of |a| and |b|, which is at most the chroma
unfoldable pub extent : Sample → ℕ
extent s = max (nat_abs s.a) (nat_abs s.b)

-- the two chromas come to more than 50: the ratio of step 2 is then at least 0.707
unfoldable pub saturated : Sample → Sample → Bool
saturated s t = ltb 500000 (extent s + extent t)

-- half the factor by which step 3 can lengthen a, in 1/1,000
unfoldable pub half_factor : Bool → ℕ
half_factor b = cond b 574 750

-- C' is at most this, f being the half factor
unfoldable pub chroma_most : ℕ → Sample → ℕ
chroma_most f s = max (2 * (f * nat_abs s.a) + 500 * nat_abs s.b) (f * nat_abs s.a + 2 * (500 * nat_abs s.b))

-- C1' + C2' is at most this
unfoldable pub chromas_most : Sample → Sample → ℕ
chromas_most s t = chroma_most (half_factor (saturated s t)) s + chroma_most (half_factor (saturated s t)) t

-- ---- the lightness

-- what a difference d in lightness, of the weight kl, leaves of the tolerance for chroma and hue
unfoldable pub left_tolerance : ℕ → ℕ → ℕ → ℕ
left_tolerance tolerance kl d = min tolerance ((5 * tolerance + 4 - 3 * (40000 * d / (7 * kl))) / 4)

-- ---- a pair

-- da² + db²
unfoldable pub distance_square : Sample → Sample → ℕ
distance_square s t = squared (t.a -ℤ s.a) + squared (t.b -ℤ s.b)

unfoldable pub near_radius : ℕ → ℕ → ℕ → Sample → Sample → ℕ
near_radius kl k tolerance s t = radius_of (left_tolerance tolerance kl (nat_abs (lightness_difference s t))) k (chromas_most s t)

-- too far apart in a and b: CIEDE2000 is then beyond the tolerance (`beyond-radius` of proofs/NearBound.antt)
unfoldable pub beyond_radius : ℕ → ℕ → ℕ → Sample → Sample → Bool
beyond_radius kl k tolerance s t = ltb (near_radius kl k tolerance s t * near_radius kl k tolerance s t) (distance_square s t)

-- ---- results, and what is worked out of a reading

-- r is x, and at most n
pub record Most (x n r : ℕ) : Type 0 where
  pub is : r ≡ x
  pub size : r ≤ n

-- a reading t, a tolerance τ and weights within the limits, and what the definitions say of the reading
pub record Worked (t : Sample) (τ l h e m n : ℕ) : Type 0 where
  pub tolerance : τ ≤ 1000000
  pub kl : WeightIn l
  pub k : WeightIn h
  pub extent : Most (extent t) 1280000 e
  pub most : Most (chroma_most 750 t) 2560000000 m
  pub saturated : Most (chroma_most 574 t) 2560000000 n
