-- Step 11, 01's "bell": the Gaussian exp(-v) of the distance between the mean hue and 275 degrees,
-- v being the square of the distance over 25 degrees.
-- Entries and results are whole numbers of 10^-9; an entry is worked in whole numbers of 10^-24. Division drops the remainder.
-- Assumes nothing.
use Rattle.std.specs.Prelude.{cond, ℕ, zero, suc, ◌+◌, ◌-◌, ◌*◌, ◌/◌, ◌%◌, ◌^◌, ltb}

-- the sum of a term of the series of e^v, the nth, and of as many more terms after it; v and the terms in 10^-24
unfoldable pub terms : ℕ → ℕ → ℕ → ℕ → ℕ
terms v n term zero = term
terms v n term (suc more) = term + terms v (suc n) (term * v / 10 ^ 24 / suc n) more

-- the series of e^v through power 120
unfoldable pub exp_series : ℕ → ℕ
exp_series v = terms v 0 (10 ^ 24) 120

-- 01's E(j), at j tenths of a degree, where v = j² / 62,500: the nearest whole number of 10^-9 to 1 over the series
unfoldable pub gaussian_entry : ℕ → ℕ
gaussian_entry j = (10 ^ 48 / exp_series (j * j * 10 ^ 24 / 62500) + 5 * 10 ^ 14) / 10 ^ 15

-- between the entries j and j + 1, rest (10^-6 degree) past j
unfoldable pub gaussian_between : ℕ → ℕ → ℕ
gaussian_between j rest = gaussian_entry j - (gaussian_entry j - gaussian_entry (j + 1)) * rest / 100000

-- the Gaussian at a distance in 10^-6 degree: 0 from 120 degrees on
unfoldable pub gaussian_of : ℕ → ℕ
gaussian_of distance = cond (ltb distance 120000000) (gaussian_between (distance / 100000) (distance % 100000)) 0
