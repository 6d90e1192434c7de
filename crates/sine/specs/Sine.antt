-- The sine (step 4): the table's entries, and the sine of any angle.
-- An angle is a whole number of 10^-6 degree, a sine of 10^-9.
-- Assumes nothing.
use Rattle.std.specs.Prelude.{cond, List, [], ◌∷◌, ℕ, ◌+◌, ◌-◌, ◌*◌, ◌/◌, ◌%◌, min, leb, ltb, ℤ, pos, neg_ℤ}

-- the series is worked in whole numbers of 10^-24: this is 1, and below it pi = 3.14159265358979323846
unfoldable pub unit : ℕ
unit = 1000000000000000000000000

unfoldable pub pi : ℕ
pi = 3141592653589793238460000

-- the Maclaurin series of the sine of x from its term t on, with a further term for each power in the list: t - (x^p / p! - ..)
unfoldable pub alternating : ℕ → ℕ → List ℕ → ℕ
alternating x t [] = t
alternating x t (p ∷ ps) = t - alternating x (t * x / unit * x / (unit * (p - 1) * p)) ps

-- the series of the sine through the 25th power
unfoldable pub series : ℕ → ℕ
series x = alternating x x (3 ∷ 5 ∷ 7 ∷ 9 ∷ 11 ∷ 13 ∷ 15 ∷ 17 ∷ 19 ∷ 21 ∷ 23 ∷ 25 ∷ [])

-- the sine of k tenths of a degree, from 0 to 90 degrees: the whole number of 10^-9 nearest to the series
unfoldable pub sine_entry : ℕ → ℕ
sine_entry k = (series (k * pi / 1800) + 500000000000000) / 1000000000000000

-- the cosine of k tenths of a degree: the sine of what is left to 90 degrees
abbrev pub cosine_entry : ℕ → ℕ
cosine_entry k = sine_entry (900 - k)

-- between entries: sin and cos of the tenth below, and t, the rest of the angle as an arc in 10^-9
unfoldable pub interpolated : ℕ → ℕ → ℕ → ℕ
interpolated sin cos t = min 1000000000 ((sin * (1000000000 - t * t / 2000000000) + cos * t) / 1000000000)

-- from 0 to 90 degrees
unfoldable pub sine_quarter : ℕ → ℕ
sine_quarter angle =
    interpolated (sine_entry (angle / 100000)) (cosine_entry (angle / 100000)) (angle % 100000 * 17453293 / 1000000)

-- from 0 to 180 degrees: sin (180° - x) = sin x
unfoldable pub sine_half : ℕ → ℕ
sine_half angle = cond (leb angle 90000000) (sine_quarter angle) (sine_quarter (180000000 - angle))

-- from 0 to 360 degrees: sin (180° + x) = -sin x
unfoldable pub sine_turn : ℕ → ℤ
sine_turn angle = cond (ltb angle 180000000) (pos (sine_half angle)) (neg_ℤ (pos (sine_half (angle - 180000000))))

-- any angle
unfoldable pub sine_of : ℕ → ℤ
sine_of angle = sine_turn (angle % 360000000)

-- the cosine is the sine 90 degrees on
unfoldable pub cosine_of : ℕ → ℤ
cosine_of angle = sine_of (angle + 90000000)
