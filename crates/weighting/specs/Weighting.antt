-- Steps 9 to 11: the hue term T, the weighting functions SL, SC and SH, and the rotation term R.
-- Lightness is a whole number of 1/10,000 (01's grid), a chroma sum of 10^-7, an angle of 10^-6 degree;
-- cosines, ratios and all the results are whole numbers of 10^-9. Division drops the remainder, toward zero. Assumes nothing.
use Rattle.std.specs.Prelude.{ℕ, ◌+◌, ◌*◌, ◌/◌, ℤ, pos, nat_abs, ◌+ℤ◌, ◌-ℤ◌, ◌*ℤ◌}
use Rattle.std.specs.Int.Signed.{quot_z}
use Rattle.isqrt.specs.Root.{root_of}
use Rattle.sine.specs.Sine.{sine_of, cosine_of}
use Rattle.gaussian.specs.Gaussian.{gaussian_of}

-- ---- step 9: the hue term T

-- k hundredths of a cosine c
unfoldable pub term_of : ℕ → ℤ → ℤ
term_of k c = quot_z (c *ℤ pos k) (pos 100)

-- T of the mean hue h. Its angles h - 30° and 4h - 63° stand as h + 330° and 4h + 297°, a whole turn more, so that none is below 0.
unfoldable pub hue_term_z : ℕ → ℤ
hue_term_z h =
    pos 1000000000 -ℤ term_of 17 (cosine_of (h + 330000000)) +ℤ
    term_of 24 (cosine_of (2 * h)) +ℤ
    term_of 32 (cosine_of (3 * h + 6000000)) -ℤ
    term_of 20 (cosine_of (4 * h + 297000000))

-- the same as a natural: T is never below 0 (`hue_term-is` of proofs/WeightingLaws.antt)
unfoldable pub hue_term : ℕ → ℕ
hue_term h = nat_abs (hue_term_z h)

-- ---- step 10: the weighting functions

-- the size of 01's m, L1 + L2 - 1,000,000: twice the distance of the mean lightness from 50. Only its square is used.
unfoldable pub lightness_offset : ℕ → ℕ → ℕ
lightness_offset l1 l2 = nat_abs (pos (l1 + l2) -ℤ pos 1000000)

-- SL at the offset m
unfoldable pub lightness_weight_at : ℕ → ℕ
lightness_weight_at m = 1000000000 + 750000 * (m * m) / root_of (1000000 * (m * m + 8000000000))

-- SL, of L1 and L2
unfoldable pub lightness_weight : ℕ → ℕ → ℕ
lightness_weight l1 l2 = lightness_weight_at (lightness_offset l1 l2)

-- SC, of s = C1' + C2'
unfoldable pub chroma_weight : ℕ → ℕ
chroma_weight s = 1000000000 + 45 * s / 20

-- SH, of s and T
unfoldable pub hue_weight : ℕ → ℕ → ℕ
hue_weight s t = 1000000000 + 3 * s / 4 * t / 1000000000

-- ---- step 11: the rotation term

-- between the mean hue and 275 degrees: the plain difference, never round the circle
unfoldable pub hue_distance : ℕ → ℕ
hue_distance h = nat_abs (pos h -ℤ pos 275000000)

-- 01's K at the Gaussian e (01's E): the sine of the angle 6 E / 100. The angle is at most 60 degrees, so that
-- the sine is not below 0 (`rotation_sine-is` of proofs/WeightingLaws.antt).
unfoldable pub rotation_sine : ℕ → ℕ
rotation_sine e = nat_abs (sine_of (6 * e / 100))

-- R, of z = Z(s) and the mean hue h. The published RT is minus R.
unfoldable pub rotation : ℕ → ℕ → ℕ
rotation z h = 2 * z * rotation_sine (gaussian_of (hue_distance h)) / 1000000000
