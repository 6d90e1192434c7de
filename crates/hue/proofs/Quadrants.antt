-- The quadrant by the signs of a and b: pa that a is above 0, na that it is below, pb and nb the same of b.
-- Assumes nothing.
use mathlib.Core.Path.{◌≡◌, refl, sym, ◌∙◌}
use mathlib.Core.Bool.{Bool, true, false, not, cond, ◌&&◌, true≢false}
use Prim.Native.Nat.{ℕ, zero, suc, ◌≤◌, zero-le}
use native.Mathlib.Omega.{arith}
use borrow.Author.Tests.{lt-ltb, le-ltb, le-leb, lt-leb, ltb-true, ltb-false}
use lib.Dec.{leb, ltb, eqb, eqb-suc-zero, lit≤}
use lib.IntN.{ℤ, pos, negsuc, nat_abs}
use lib.Signed.{lt_z, le_z}
use Rattle.sine.proofs.SineLaws.{cond-le}
use Rattle.hue.specs.Hue.{grey, quadrant_of}

unfoldable pub quadrant_by : Bool → Bool → Bool → Bool → ℕ
quadrant_by pa na pb nb = cond (pa && not nb) 0 (cond (not pa && pb) 1 (cond (na && not pb) 2 (cond (not na && nb) 3 4)))

leb-not : (m n : ℕ) (b : Bool) → ltb n m ≡ b → leb m n ≡ not b
leb-not m n true e = lt-leb m n (ltb-true n m e)
leb-not m n false e = le-leb m n (ltb-false n m e)

le_z-not : (x y : ℤ) → le_z x y ≡ not (lt_z y x)
le_z-not (pos m) (pos n) = leb-not m n (ltb n m) refl
le_z-not (pos m) (negsuc n) = refl
le_z-not (negsuc m) (pos n) = refl
le_z-not (negsuc m) (negsuc n) = leb-not n m (ltb m n) refl

quadrant-signs : (a b : ℤ) → quadrant_of a b ≡ quadrant_by (lt_z (pos 0) a) (lt_z a (pos 0)) (lt_z (pos 0) b) (lt_z b (pos 0))
unfolding quadrant_of quadrant_by
quadrant-signs a b = rw (le_z-not (pos 0) b, le_z-not a (pos 0), le_z-not b (pos 0), le_z-not (pos 0) a)

pub quadrant-by :
    (a b : ℤ) (pa na pb nb : Bool) →
    lt_z (pos 0) a ≡ pa → lt_z a (pos 0) ≡ na → lt_z (pos 0) b ≡ pb → lt_z b (pos 0) ≡ nb →
    quadrant_by pa na pb nb ≡ quadrant_of a b
quadrant-by a b pa na pb nb e f g h = cc (quadrant-signs a b)

-- not both above and below 0
above-not-below : (x : ℤ) → lt_z (pos 0) x ≡ true → lt_z x (pos 0) ≡ false
above-not-below (pos n) e = le-ltb n 0 zero-le
above-not-below (negsuc n) e = sym e

-- as the code chooses it
abbrev pub chosen : Bool → Bool → Bool → Bool → ℕ
chosen pa na pb nb = cond pa (cond nb 3 0) (cond pb 1 (cond na 2 (cond nb 3 4)))

chosen_by : (pa na pb nb : Bool) → (pa ≡ true → na ≡ false) → chosen pa na pb nb ≡ quadrant_by pa na pb nb
unfolding quadrant_by
chosen_by true na pb false h = refl
chosen_by true true pb true h = absurd (true≢false (h refl))
chosen_by true false pb true h = refl
chosen_by false true true nb h = refl
chosen_by false false true nb h = refl
chosen_by false true false nb h = refl
chosen_by false false false true h = refl
chosen_by false false false false h = refl

pub quadrant-chosen : (a b : ℤ) → chosen (lt_z (pos 0) a) (lt_z a (pos 0)) (lt_z (pos 0) b) (lt_z b (pos 0)) ≡ quadrant_of a b
quadrant-chosen a b = chosen_by _ _ _ _ (above-not-below a) ∙ sym (quadrant-signs a b)

zero-by : (x : ℤ) → eqb (nat_abs x) 0 ≡ not (lt_z (pos 0) x) && not (lt_z x (pos 0))
zero-by (pos zero) = refl
zero-by (pos (suc n)) = rw (lt-ltb 0 (suc n) (omega arith), eqb-suc-zero n)
zero-by (negsuc n) = eqb-suc-zero n

-- none of the four quadrants is where no sign is
four : (pa na pb nb : Bool) → (pa ≡ true → na ≡ false) → (not pa && not na) && (not pb && not nb) ≡ eqb (quadrant_by pa na pb nb) 4
unfolding quadrant_by
four true na pb false h = refl
four true true pb true h = absurd (true≢false (h refl))
four true false pb true h = refl
four false true true nb h = refl
four false false true nb h = refl
four false true false nb h = refl
four false false false true h = refl
four false false false false h = refl

pub grey-four : (a b : ℤ) → grey a b ≡ eqb (quadrant_of a b) 4
unfolding grey
grey-four a b = rw (zero-by a, zero-by b, quadrant-signs a b) (four _ _ _ _ (above-not-below a))

by_le : (pa na pb nb : Bool) → quadrant_by pa na pb nb ≤ 4
unfolding quadrant_by
by_le pa na pb nb =
    cond-le (pa && not nb) (lit≤ tt)
    (cond-le (not pa && pb) (lit≤ tt) (cond-le (na && not pb) (lit≤ tt) (cond-le (not na && nb) (lit≤ tt) (lit≤ tt))))

pub le_four : (a b : ℤ) → quadrant_of a b ≤ 4
le_four a b = rw (quadrant-signs a b) (by_le _ _ _ _)
