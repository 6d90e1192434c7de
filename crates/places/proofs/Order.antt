-- The order of ℤ by its tests: `lt_z` and `le_z` as equations, as a branch of the code leaves them.
-- And what is read back of a stored number. Assumes nothing.
use mathlib.Core.Path.{◌≡◌, ◌∙◌}
use mathlib.Core.Bool.{true, false}
use Prim.Native.Nat.{◌^◌, ◌<◌}
use borrow.Author.Rules.{sfits_of}
use lib.IntN.{ℤ}
use lib.Signed.{mag, lt_z, le_z}
use mir.Syntax.{w32}
use mir.Val.{hbits, of_z, to_z}
use mir.Facts.{to_z-of_z}
use Rattle.std.proofs.Common.{arith}
use Rattle.std.proofs.lemmas.Int.{ints}

pub le_z-refl : (a : ℤ) → le_z a a ≡ true
le_z-refl a = grind (arith, ints)

pub le_z-trans : (a b c : ℤ) → le_z a b ≡ true → le_z b c ≡ true → le_z a c ≡ true
le_z-trans a b c h k = grind (arith, ints)

pub not-lt-le : (a b : ℤ) → lt_z a b ≡ false → le_z b a ≡ true
not-lt-le a b h = grind (arith, ints)

pub lt_not : (a b : ℤ) → lt_z a b ≡ true → le_z b a ≡ false
lt_not a b h = grind (arith, ints)

-- a ≤ b < c
pub le_z-lt : (a b c : ℤ) → le_z a b ≡ true → lt_z b c ≡ true → lt_z a c ≡ true
le_z-lt a b c h k = grind (arith, ints)

-- what is read back of a number of 32 bits that was stored
pub read_back : {z y : ℤ} → mag z < 2 ^ hbits w32 → z ≡ y → to_z w32 (of_z w32 z) ≡ y
read_back h e = to_z-of_z {w = w32} (sfits_of h) ∙ e
