-- What antt computes from the definitions. The first samples are those of the proved table: a, b (2.49, -0.0010) with (-2.49, 0.0009),
-- (-2.49, 0.0010) and (-2.49, 0.0011), in 1/10,000.
-- Assumes nothing.
use mathlib.Core.Path.{◌≡◌, refl}
use mathlib.Core.Bool.{true, false}
use lib.IntN.{pos, neg_ℤ}
use Rattle.isqrt.specs.Root.{next_root, root_in, root_of}
use Rattle.hue.specs.Hue.{grey, quadrant_of}
use Rattle.hue_difference.specs.HueDifference.{cross_of, later_in, second_later, first_later, far_of, opposite_of, no_hue_of}
use Rattle.hue_difference.specs.HueDifference.{hue_negative, dot_of, hue_size, hue_difference_of, mean_hue_of}

-- ---- less than half a turn apart, exactly half a turn, and more

pub less-than-half : far_of (pos 24900) (neg_ℤ (pos 10)) (neg_ℤ (pos 24900)) (pos 9) ≡ false
unfolding far_of second_later first_later later_in cross_of quadrant_of
less-than-half = refl

pub half-not-far : far_of (pos 24900) (neg_ℤ (pos 10)) (neg_ℤ (pos 24900)) (pos 10) ≡ false
unfolding far_of second_later first_later later_in cross_of quadrant_of
half-not-far = refl

pub half-opposite : opposite_of (pos 24900) (neg_ℤ (pos 10)) (neg_ℤ (pos 24900)) (pos 10) ≡ true
unfolding opposite_of cross_of grey quadrant_of
half-opposite = refl

pub half-minus : hue_negative (pos 24900) (neg_ℤ (pos 10)) (neg_ℤ (pos 24900)) (pos 10) ≡ true
unfolding hue_negative opposite_of second_later later_in cross_of grey quadrant_of
half-minus = refl

-- and plus from the second sample to the first
pub half-plus : hue_negative (neg_ℤ (pos 24900)) (pos 10) (pos 24900) (neg_ℤ (pos 10)) ≡ false
unfolding hue_negative opposite_of second_later later_in cross_of grey quadrant_of
half-plus = refl

pub more-than-half : far_of (pos 24900) (neg_ℤ (pos 10)) (neg_ℤ (pos 24900)) (pos 11) ≡ true
unfolding far_of second_later first_later later_in cross_of quadrant_of
more-than-half = refl

-- ---- H of chroma 5000: 16.26 degrees down, by the quotient; half a turn, by the root; and none

pub quotient-minus :
    hue_difference_of (no_hue_of (pos 3) (pos 4) (pos 4) (pos 3)) (hue_negative (pos 3) (pos 4) (pos 4) (pos 3))
    (hue_size (pos 3000) (pos 4000) 5000 (pos 4000) (pos 3000) 5000) ≡
    neg_ℤ (pos 1414)
unfolding hue_difference_of no_hue_of hue_negative opposite_of second_later later_in hue_size cross_of dot_of grey quadrant_of root_of root_in next_root
quotient-minus = refl

pub half-turn : hue_size (pos 3000) (pos 4000) 5000 (neg_ℤ (pos 3000)) (neg_ℤ (pos 4000)) 5000 ≡ 10000
unfolding hue_size dot_of root_of root_in next_root
half-turn = refl

pub grey-none : no_hue_of (pos 0) (pos 0) (pos 3) (pos 4) ≡ true
unfolding no_hue_of grey
grey-none = refl

-- ---- the mean hue: with a grey sample, near, and far on either side

pub mean-grey : mean_hue_of true false 0 126869700 ≡ 126869700
unfolding mean_hue_of
mean-grey = refl

pub mean-near : mean_hue_of false false 10000000 20000000 ≡ 15000000
unfolding mean_hue_of
mean-near = refl

pub mean-far-plus : mean_hue_of false true 10000000 300000000 ≡ 335000000
unfolding mean_hue_of
mean-far-plus = refl

pub mean-far-minus : mean_hue_of false true 100000000 300000000 ≡ 20000000
unfolding mean_hue_of
mean-far-minus = refl

-- a sum of 360 degrees is not under 360
pub mean-far-turn : mean_hue_of false true 10000000 350000000 ≡ 0
unfolding mean_hue_of
mean-far-turn = refl
