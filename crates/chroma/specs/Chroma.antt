-- Steps 1 to 3: chroma, the seventh-power ratio (01's Z), and the primed coordinates and their chroma.
-- a and b are whole numbers of 10^-4 (01's grid), chroma, a' and b' of 10^-7, ratios of 10^-9. Division drops the remainder,
-- toward zero.
-- Assumes nothing.
use Rattle.std.specs.Prelude.{cond, ℕ, ◌+◌, ◌-◌, ◌*◌, ◌/◌, leb, ℤ, pos, nat_abs, ◌*ℤ◌}
use Rattle.std.specs.Int.Signed.{quot_z}
use Rattle.isqrt.specs.Root.{root_of}

-- a² + b²
unfoldable pub sum_of_squares : ℤ → ℤ → ℕ
sum_of_squares a b = nat_abs a * nat_abs a + nat_abs b * nat_abs b

-- step 1: the chroma, 01's C
unfoldable pub chroma_of : ℤ → ℤ → ℕ
chroma_of a b = root_of (1000000 * sum_of_squares a b)

-- step 2. Of a sum s of two chromas, x = 2s is their mean over 25, and 01's p is x to the power 3.5: the ratio is
-- root(x^7 / (1 + x^7)) = p / root(1 + p²), or 1 / root(1 + p²) where p is that of 1 / x

-- p of an x of at most 10^9
unfoldable pub power_of : ℕ → ℕ
power_of x = x * x / 1000000000 * x / 1000000000 * root_of (1000000000 * x) / 1000000000

-- 01's root(10^18 + p²)
unfoldable pub hypotenuse_of : ℕ → ℕ
hypotenuse_of p = root_of (1000000000000000000 + p * p)

-- 01's Z
unfoldable pub ratio_of : ℕ → ℕ
ratio_of s =
    cond
    (leb (2 * s) 1000000000)
    (1000000000 * power_of (2 * s) / hypotenuse_of (power_of (2 * s)))
    (1000000000000000000 / hypotenuse_of (power_of (1000000000000000000 / (2 * s))))

-- step 3: a' of a and z, the ratio of the pair's chroma sum
unfoldable pub primed_a : ℤ → ℕ → ℤ
primed_a a z = quot_z (a *ℤ pos (3000000000 - z)) (pos 2000000)

-- a or b, in 1/10,000, in the unit of chroma; b' is that of b
unfoldable pub in_ten_millionths : ℤ → ℤ
in_ten_millionths x = x *ℤ pos 1000

-- C' of a' and b'
unfoldable pub primed_chroma : ℤ → ℤ → ℕ
primed_chroma a b = root_of (sum_of_squares a b)
