-- The definitions at numbers, by computation.
use mathlib.Core.Path.{◌≡◌, refl}
use mathlib.Core.Bool.{true, false}
use lib.IntN.{pos, negsuc, nat_abs, ◌*ℤ◌, ◌-ℤ◌}
use lib.Signed.{lt_z, quot_z}
use Rattle.signed.specs.Inner.{int}

minus-seven : int (record { neg = true; n = 7 }) ≡ negsuc 6
unfolding int
minus-seven = refl

-- zero carries either sign
minus-zero : int (record { neg = true; n = 0 }) ≡ int (record { neg = false; n = 0 })
unfolding int
minus-zero = refl

-- toward zero: -7 / 2 is -3
seven-halved : quot_z (negsuc 6) (pos 2) ≡ negsuc 2
seven-halved = refl

-- -7 * 2 = -14, 2 - 7 = -5
product : negsuc 6 *ℤ pos 2 ≡ negsuc 13
product = refl

difference : pos 2 -ℤ pos 7 ≡ negsuc 4
difference = refl

-- -0 is not below 0

zeros : lt_z (int (record { neg = true; n = 0 })) (pos 0) ≡ false
unfolding int
zeros = refl

-- the least `i64`
least : nat_abs (negsuc 9223372036854775807) ≡ 9223372036854775808
least = refl
