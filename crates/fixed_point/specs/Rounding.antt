-- A float's exact value, times 10,000, to the nearest whole number: 01's grid. `fin s m e` is the number m * 2 ^ e, negative
-- where s is true, so its size is the fraction m * up e / down e. Assumes nothing.
use Rattle.std.specs.Prelude.{ℕ, ◌+◌, ◌*◌, ◌/◌, ◌%◌, cond, ℤ, pos, ◌==◌, nat_lt, Float}
use Rattle.std.specs.Float.{nan, inf, fin}
use Rattle.std.specs.Float.Ieee.{up, down}
use Rattle.signed.specs.Value.{with_sign}

-- what a half goes to, its whole part being q: the even one of q and q + 1
unfoldable pub half_of : ℕ → ℕ
half_of q = q + q % 2

-- num / den to the nearest whole number: what is left over is below a half, a half or above it
unfoldable pub nearest_of : ℕ → ℕ → ℕ
nearest_of num den =
    cond (nat_lt (2 * (num % den)) den) (num / den)
    (cond (2 * (num % den) == den) (half_of (num / den)) (num / den + 1))

-- The size in whole numbers of 1/10,000. What is not finite has none, and is refused before it is asked.
unfoldable pub fixed_size : Float → ℕ
fixed_size nan = 0
fixed_size (inf s) = 0
fixed_size (fin s m e) = nearest_of (10000 * (m * up e)) (down e)

-- the same with its sign
unfoldable pub fixed_of : Float → ℤ
fixed_of nan = pos 0
fixed_of (inf s) = pos 0
fixed_of (fin s m e) = with_sign s (fixed_size (fin s m e))
