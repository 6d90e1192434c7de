-- Each definition at some numbers, by computation. Assumes nothing.
use mathlib.Core.Path.{◌≡◌, refl}
use mathlib.Core.List.{[], ◌∷◌, map}
use lib.IntN.{pos, neg_ℤ}
use Rattle.isqrt.specs.Root.{next_root, root_in, root_of}
use Rattle.chroma.specs.Chroma.{sum_of_squares, chroma_of, power_of, hypotenuse_of, ratio_of, primed_a, in_ten_millionths, primed_chroma}

-- the sums of no chroma, of a mean chroma of 15, 25, a little over 25, 50, and of the largest
ratios :
    map ratio_of (0 ∷ 300000000 ∷ 500000000 ∷ 500000001 ∷ 1000000000 ∷ 4700000000 ∷ []) ≡
    0 ∷ 165019083 ∷ 707106781 ∷ 707106784 ∷ 996116490 ∷ 999999923 ∷ []
unfolding next_root root_in root_of power_of hypotenuse_of ratio_of
ratios = refl

-- sample 1 of pair 4 in Table I of source 001, where a is -1.3802 and b is -84.2814: it prints a' = -1.3803 and C' = 84.2927
chroma-1 : chroma_of (neg_ℤ (pos 13802)) (neg_ℤ (pos 842814)) ≡ 842927003
unfolding next_root root_in root_of sum_of_squares chroma_of
chroma-1 = refl

-- toward zero
primed_a-1 : primed_a (neg_ℤ (pos 13802)) 999892372 ≡ neg_ℤ (pos 13802742)
unfolding primed_a
primed_a-1 = refl

primed_chroma-1 : primed_chroma (neg_ℤ (pos 13802742)) (in_ten_millionths (neg_ℤ (pos 842814))) ≡ 842927015
unfolding next_root root_in root_of sum_of_squares in_ten_millionths primed_chroma
primed_chroma-1 = refl

-- the largest chromas
chroma-largest : chroma_of (pos 1280000) (pos 1280000) ≡ 1810193359
unfolding next_root root_in root_of sum_of_squares chroma_of
chroma-largest = refl

primed_chroma-largest : primed_chroma (pos 1920000000) (pos 1280000000) ≡ 2307552816
unfolding next_root root_in root_of sum_of_squares primed_chroma
primed_chroma-largest = refl
