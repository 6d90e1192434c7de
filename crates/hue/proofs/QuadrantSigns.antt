-- The signs of a and b in each quadrant: two points of one quadrant have a's of one sign, and b's. Assumes nothing.
use mathlib.Core.Path.{◌≡◌, refl, sym, ap, ◌∙◌}
use mathlib.Core.Bool.{Bool, true, false, ◌||◌}
use Prim.Native.Nat.{ℕ, zero, suc, ◌*◌, zero-le}
use native.Mathlib.Omega.{arith}
use borrow.Author.Tests.{lt-ltb, le-ltb}
use lib.Dec.{eqb}
use lib.IntN.{ℤ, pos, negsuc, neg_ℤ, nat_abs, ◌*ℤ◌, neg_ℤ-neg_ℤ}
use Rattle.signed.specs.Value.{with_sign}
use Rattle.signed.proofs.SignedLaws.{neg-mul, mul-neg}
use Rattle.hue.specs.Hue.{quadrant_of}
use Rattle.hue.proofs.Quadrants.{quadrant_by, quadrant-by}

-- a is not above 0 in the quadrants 1 and 2, b not in 2 and 3
unfoldable pub leftward : ℕ → Bool
leftward q = eqb q 1 || eqb q 2

unfoldable pub downward : ℕ → Bool
downward q = eqb q 2 || eqb q 3

a-above : (pb nb : Bool) → leftward (quadrant_by true false pb nb) ≡ false
unfolding leftward quadrant_by
a-above pb true = refl
a-above pb false = refl

a-below : (pb nb : Bool) → leftward (quadrant_by false true pb nb) ≡ true
unfolding leftward quadrant_by
a-below true nb = refl
a-below false nb = refl

b-above : (pa na : Bool) → downward (quadrant_by pa na true false) ≡ false
unfolding downward quadrant_by
b-above true na = refl
b-above false na = refl

b-below : (pa na : Bool) → downward (quadrant_by pa na false true) ≡ true
unfolding downward quadrant_by
b-below true true = refl
b-below true false = refl
b-below false true = refl
b-below false false = refl

zero-sign : (s : Bool) → pos 0 ≡ with_sign s 0
zero-sign true = refl
zero-sign false = refl

pub a-sign : (a b : ℤ) → a ≡ with_sign (leftward (quadrant_of a b)) (nat_abs a)
a-sign (pos zero) b = zero-sign (leftward (quadrant_of (pos 0) b))
a-sign (pos (suc n)) b =
    let q = quadrant-by (pos (suc n)) b true false _ _ (lt-ltb 0 (suc n) (omega arith)) (le-ltb (suc n) 0 zero-le) refl refl in
    ap (λ s. with_sign s (suc n)) (sym (a-above _ _) ∙ ap leftward q)
a-sign (negsuc n) b =
    let q = quadrant-by (negsuc n) b false true _ _ refl refl refl refl in
    ap (λ s. with_sign s (suc n)) (sym (a-below _ _) ∙ ap leftward q)

pub b-sign : (a b : ℤ) → b ≡ with_sign (downward (quadrant_of a b)) (nat_abs b)
b-sign a (pos zero) = zero-sign (downward (quadrant_of a (pos 0)))
b-sign a (pos (suc n)) =
    let q = quadrant-by a (pos (suc n)) _ _ true false refl refl (lt-ltb 0 (suc n) (omega arith)) (le-ltb (suc n) 0 zero-le) in
    ap (λ s. with_sign s (suc n)) (sym (b-above _ _) ∙ ap downward q)
b-sign a (negsuc n) =
    let q = quadrant-by a (negsuc n) _ _ false true refl refl refl refl in
    ap (λ s. with_sign s (suc n)) (sym (b-below _ _) ∙ ap downward q)

-- the product of two numbers of one sign
pub sign-product : (s : Bool) (m n : ℕ) → with_sign s m *ℤ with_sign s n ≡ pos (m * n)
sign-product false m n = refl
sign-product true m n = neg-mul (pos m) (neg_ℤ (pos n)) ∙ ap neg_ℤ (mul-neg (pos m) (pos n)) ∙ neg_ℤ-neg_ℤ (pos (m * n))
