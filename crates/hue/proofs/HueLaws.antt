-- What holds of a hue: it is below 360 degrees, and its tenth is the largest that the point reaches. And of the quadrants: 4 is grey alone.
-- Assumes nothing.
use mathlib.Core.Path.{◌≡◌, refl, sym, ap, ◌∙◌}
use mathlib.Core.Bool.{Bool, true, false, cond, and-eq-true_iff}
use mathlib.Core.Logic.{⊎_elim}
use Prim.Native.Nat.{ℕ, zero, suc, ◌≤◌, ◌<◌, zero-le}
use native.Mathlib.Nat.{le_refl, le-suc, le_trans, min-le_left, eq-or-lt_of_le}
use native.Mathlib.Omega.{arith}
use borrow.Author.Tests.{eq-eqb, eqb-true, eqb-false}
use lib.Dec.{eqb}
use lib.IntN.{ℤ, pos, nat_abs}
use Rattle.signed.proofs.SignedLaws.{size-zero}
use Rattle.hue.specs.Hue.{grey, quadrant_of, turned_x, turned_y, largest, reaches, tenth_of, rest_of, angle_of, hue_in, hue_of}
use Rattle.hue.proofs.Quadrants.{le_four, grey-four}
use Rattle.hue.proofs.Halving.{reaches-first}

-- ---- the largest number

-- r is the largest number up to n for which p holds
pub record Largest (p : ℕ → Bool) (n r : ℕ) : Type 0 where
  pub within : r ≤ n
  pub holds : p r ≡ true
  pub fails : (k : ℕ) → r < k → k ≤ n → p k ≡ false

-- the step from n to n + 1, by what p gives there
larger : (p : ℕ → Bool) (n : ℕ) (b : Bool) → p (suc n) ≡ b → Largest p n (largest p n) → Largest p (suc n) (cond b (suc n) (largest p n))
larger p n true e l = record { within = le_refl (suc n); holds = e; fails = λ k u v. absurd (apart k u v) }
  where
    apart : (k : ℕ) → suc n < k → k ≤ suc n → ⊥
    apart k u v = omega arith
larger p n false e l =
    record {
      within = le_trans l.within (le-suc n);
      holds = l.holds;
      fails = λ k u v. ⊎_elim (λ h. ap p h ∙ e) (λ h. l.fails k u (omega arith)) (eq-or-lt_of_le v);
    }

pub largest-is : (p : ℕ → Bool) (n : ℕ) → p 0 ≡ true → Largest p n (largest p n)
unfolding largest
largest-is p zero h = record { within = zero-le; holds = h; fails = λ k u v. absurd (apart k u v) }
  where
    apart : (k : ℕ) → 0 < k → k ≤ 0 → ⊥
    apart k u v = omega arith
largest-is p (suc n) h = larger p n (p (suc n)) refl (largest-is p n h)

pub tenth-is : (x y : ℕ) → Largest (reaches x y) 899 (tenth_of x y)
unfolding tenth_of
tenth-is x y = largest-is (reaches x y) 899 (reaches-first x y)

-- ---- the quadrants

pub quadrant-le : (a b : ℤ) → quadrant_of a b ≤ 4
quadrant-le a b = le_four a b

-- 4 exactly where a = b = 0
pub quadrant-grey : (a b : ℤ) → grey a b ≡ eqb (quadrant_of a b) 4
quadrant-grey a b = grey-four a b

pub grey-zero : (a b : ℤ) → grey a b ≡ true → (a ≡ pos 0) × (b ≡ pos 0)
unfolding grey
grey-zero a b e =
    let both = (and-eq-true_iff (eqb (nat_abs a) 0) (eqb (nat_abs b) 0)).0 e in
    (size-zero a both.0, size-zero b both.1)

pub quadrant-four : (a b : ℤ) → quadrant_of a b ≡ 4 → (a ≡ pos 0) × (b ≡ pos 0)
quadrant-four a b e = grey-zero a b (quadrant-grey a b ∙ eq-eqb (quadrant_of a b) 4 e)

pub quadrant-zero : quadrant_of (pos 0) (pos 0) ≡ 4
unfolding quadrant_of
quadrant-zero = refl

pub quadrant_of-none : (a b : ℤ) → nat_abs a ≡ 0 → nat_abs b ≡ 0 → quadrant_of a b ≡ 4
unfolding grey
quadrant_of-none a b h k = eqb-true (quadrant_of a b) 4 (sym (quadrant-grey a b) ∙ rw (h, k))

-- ---- the hue

pub rest_le : (x y k chroma : ℕ) → rest_of x y k chroma ≤ 99999
unfolding rest_of
rest_le x y k chroma = min-le_left _ _

pub angle-lt : (x y chroma : ℕ) → angle_of x y chroma < 90000000
unfolding angle_of
angle-lt x y chroma = omega (arith, (tenth-is x y).within, rest_le x y (tenth_of x y) chroma)

in-lt : (q : ℕ) (a b : ℤ) (chroma : ℕ) → q ≤ 3 → hue_in q a b chroma < 360000000
unfolding hue_in
in-lt q a b chroma h = omega (arith, angle-lt (turned_x q a b) (turned_y q a b) chroma)

pub hue-grey : (a b : ℤ) (chroma : ℕ) → grey a b ≡ true → hue_of a b chroma ≡ 0
unfolding hue_of
hue-grey a b chroma e = rw e

pub hue-coloured : (a b : ℤ) (chroma : ℕ) → grey a b ≡ false → hue_of a b chroma ≡ hue_in (quadrant_of a b) a b chroma
unfolding hue_of
hue-coloured a b chroma e = rw e

by-grey : (g : Bool) (a b : ℤ) (chroma : ℕ) → grey a b ≡ g → cond g 0 (hue_in (quadrant_of a b) a b chroma) < 360000000
by-grey true a b chroma e = omega arith
by-grey false a b chroma e =
    let h : quadrant_of a b ≡ 4 → ⊥ = eqb-false (quadrant_of a b) 4 (sym (quadrant-grey a b) ∙ e) in
    let l : quadrant_of a b ≤ 4 = quadrant-le a b in
    in-lt (quadrant_of a b) a b chroma (omega arith)

-- below 360 degrees
pub hue-lt : (a b : ℤ) (chroma : ℕ) → hue_of a b chroma < 360000000
unfolding hue_of
hue-lt a b chroma = by-grey (grey a b) a b chroma refl
