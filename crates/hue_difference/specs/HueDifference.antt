-- The hues of two samples against each other (steps 6, 7 and 8): which way round the hue circle, the hue difference H
-- with its sign, and the mean hue. Sample 1 is (a1, b1), sample 2 is (a2, b2).
-- Assumes nothing.
use Rattle.std.specs.Prelude.{Bool, cond, not, ◌&&◌, ◌||◌, ℕ, ◌+◌, ◌-◌, ◌*◌, ◌/◌, ltb, eqb, ℤ, pos, nat_abs, ◌+ℤ◌, ◌-ℤ◌, ◌*ℤ◌}
use Rattle.std.specs.Int.Signed.{lt_z}
use Rattle.isqrt.specs.Root.{root_of}
use Rattle.signed.specs.Value.{with_sign}
use Rattle.hue.specs.Hue.{grey, quadrant_of}

-- ---- step 6, of a and b in 1/10,000 (01's grid)

-- 01's X, the cross product: above 0 where the way from sample 1 to sample 2 with rising hue is less than half a turn
unfoldable pub cross_of : ℤ → ℤ → ℤ → ℤ → ℤ
cross_of a1 b1 a2 b2 = a1 *ℤ b2 -ℤ a2 *ℤ b1

-- the order of the hues (01's later): a hue in the quadrant q is later than one in the quadrant p by the quadrants, and within one
-- quadrant where X has the sign that says so, `ahead`
unfoldable pub later_in : ℕ → ℕ → Bool → Bool
later_in p q ahead = ltb p q || (eqb p q && ahead)

-- sample 2 is later: within one quadrant where X > 0
unfoldable pub second_later : ℤ → ℤ → ℤ → ℤ → Bool
second_later a1 b1 a2 b2 = later_in (quadrant_of a1 b1) (quadrant_of a2 b2) (lt_z (pos 0) (cross_of a1 b1 a2 b2))

-- sample 1 is later: within one quadrant where X < 0
unfoldable pub first_later : ℤ → ℤ → ℤ → ℤ → Bool
first_later a1 b1 a2 b2 = later_in (quadrant_of a2 b2) (quadrant_of a1 b1) (lt_z (cross_of a1 b1 a2 b2) (pos 0))

-- the hues are more than half a turn apart (01's far): sample 2 is later and X < 0, or sample 1 is later and X > 0
unfoldable pub far_of : ℤ → ℤ → ℤ → ℤ → Bool
far_of a1 b1 a2 b2 =
    (second_later a1 b1 a2 b2 && lt_z (cross_of a1 b1 a2 b2) (pos 0)) ||
    (first_later a1 b1 a2 b2 && lt_z (pos 0) (cross_of a1 b1 a2 b2))

-- ---- step 7, the sign, of a and b in 1/10,000

-- the hues are exactly opposite: neither sample is grey, X = 0, and the quadrants differ
unfoldable pub opposite_of : ℤ → ℤ → ℤ → ℤ → Bool
opposite_of a1 b1 a2 b2 =
    not (grey a1 b1) && not (grey a2 b2) && eqb (nat_abs (cross_of a1 b1 a2 b2)) 0 && not (eqb (quadrant_of a1 b1) (quadrant_of a2 b2))

-- H is 0: either sample is grey, or X = 0 and the hues are not opposite
unfoldable pub no_hue_of : ℤ → ℤ → ℤ → ℤ → Bool
no_hue_of a1 b1 a2 b2 = grey a1 b1 || grey a2 b2 || (eqb (nat_abs (cross_of a1 b1 a2 b2)) 0 && not (opposite_of a1 b1 a2 b2))

-- H is below 0: X is; but of exactly opposite hues, sample 2 is not later
unfoldable pub hue_negative : ℤ → ℤ → ℤ → ℤ → Bool
hue_negative a1 b1 a2 b2 = cond (opposite_of a1 b1 a2 b2) (not (second_later a1 b1 a2 b2)) (lt_z (cross_of a1 b1 a2 b2) (pos 0))

-- ---- step 7, the size, of a', b' and C' in 10^-7

-- 01's d, the dot product
unfoldable pub dot_of : ℤ → ℤ → ℤ → ℤ → ℤ
dot_of a1 b1 a2 b2 = a1 *ℤ a2 +ℤ b1 *ℤ b2

-- in 10^-7, of a1', b1', C1', a2', b2', C2'
unfoldable pub hue_size : ℤ → ℤ → ℕ → ℤ → ℤ → ℕ → ℕ
hue_size a1 b1 c1 a2 b2 c2 =
    cond (lt_z (dot_of a1 b1 a2 b2) (pos 0))
    (2 * root_of (nat_abs (pos (c1 * c2) -ℤ dot_of a1 b1 a2 b2) / 2))
    (nat_abs (cross_of a1 b1 a2 b2) / root_of (nat_abs (pos (c1 * c2) +ℤ dot_of a1 b1 a2 b2) / 2))

-- the hue difference H, in 10^-7: 0 where there is none, else the size with its sign
unfoldable pub hue_difference_of : Bool → Bool → ℕ → ℤ
hue_difference_of none negative size = cond none (pos 0) (with_sign negative size)

-- ---- step 8, of hues in 10^-6 degree

-- the mean hue: the sum where a sample is grey, whose hue is 0; else half the sum, and half a turn further, up or down, where
-- the hues are more than half a turn apart
unfoldable pub mean_hue_of : Bool → Bool → ℕ → ℕ → ℕ
mean_hue_of any_grey far h1 h2 =
    cond any_grey (h1 + h2)
    (cond far
    (cond (ltb (h1 + h2) 360000000) ((h1 + h2 + 360000000) / 2) ((h1 + h2 - 360000000) / 2))
    ((h1 + h2) / 2))
