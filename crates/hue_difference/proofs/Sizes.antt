-- The bounds that keep step 7 within 64 bits.
-- Assumes nothing.
use mathlib.Core.Path.{◌≡◌, refl}
use mathlib.Core.Bool.{Bool, true, false, cond, true≢false}
use Prim.Native.Nat.{ℕ, zero, suc, ◌+◌, ◌*◌, ◌/◌, ◌≤◌, ◌<◌, zero-le}
use native.Mathlib.Nat.{le_refl, le_trans, mul-le-mul, mul-add, add-mul, mul_comm, mul_left_comm, div-zero, div-le_of_le-mul}
use native.Mathlib.Decide.{dec_le}
use native.Mathlib.Omega.{arith}
use borrow.Author.Tests.{ltb-true}
use lib.IntN.{ℤ, pos, negsuc, neg_ℤ, nat_abs, ◌+ℤ◌, ◌-ℤ◌, ◌*ℤ◌}
use lib.Signed.{lt_z}
use Rattle.isqrt.specs.Root.{root_of}
use Rattle.isqrt.proofs.RootLaws.{root-lt-next, root_below}
use Rattle.signed.proofs.SignedLaws.{nat_abs-neg, nat_abs_mul, nat_abs-add}
use Rattle.hue_difference.specs.Inner.{Primed}
use Rattle.hue_difference.specs.HueDifference.{cross_of, dot_of, hue_size}

-- ---- the sum under the root: in each branch d is taken with the sign that makes it a sum of sizes

pub plus-size : (p : ℕ) (d : ℤ) → lt_z d (pos 0) ≡ false → nat_abs (pos p +ℤ d) ≡ p + nat_abs d
plus-size p (pos n) e = refl
plus-size p (negsuc n) e = absurd (true≢false e)

pub minus-size : (p : ℕ) (d : ℤ) → lt_z d (pos 0) ≡ true → nat_abs (pos p -ℤ d) ≡ p + nat_abs d
minus-size p (pos n) e = absurd (none n (ltb-true n 0 e))
  where
    none : (n : ℕ) → n < 0 → ⊥
    none n h = omega arith
minus-size p (negsuc n) e = refl

-- ---- X', d and C1'C2' of plain sizes

module _ {a1 b1 c1 a2 b2 c2 : ℕ} (s : Primed a1 b1 c1) (t : Primed a2 b2 c2) where
  pub products-le : c1 * c2 ≤ 5324800000000000000
  products-le = omega (arith, mul-le-mul s.c_le t.c_le)

  pub dot-sizes : a1 * a2 + b1 * b2 ≤ 5324800000000000000
  dot-sizes = omega (arith, mul-le-mul s.a_le t.a_le, mul-le-mul s.b_le t.b_le)

  pub cross-sizes : a1 * b2 + a2 * b1 ≤ 4915200000000000000
  cross-sizes = omega (arith, mul-le-mul s.a_le t.b_le, mul-le-mul t.a_le s.b_le)

  pub cross-chromas : a1 * b2 + a2 * b1 ≤ 2 * (c1 * c2)
  cross-chromas = omega (arith, mul-le-mul s.a_chroma t.b_chroma, mul-le-mul t.a_chroma s.b_chroma, mul_comm c2 c1)

-- ---- the same of the integers

module _ (a1 b1 a2 b2 : ℤ) where
  pub cross-size : nat_abs (cross_of a1 b1 a2 b2) ≤ nat_abs a1 * nat_abs b2 + nat_abs a2 * nat_abs b1
  unfolding cross_of
  cross-size =
      omega (arith, nat_abs-add (a1 *ℤ b2) (neg_ℤ (a2 *ℤ b1)), nat_abs-neg (a2 *ℤ b1), nat_abs_mul a1 b2, nat_abs_mul a2 b1)

  pub dot-size : nat_abs (dot_of a1 b1 a2 b2) ≤ nat_abs a1 * nat_abs a2 + nat_abs b1 * nat_abs b2
  unfolding dot_of
  dot-size = omega (arith, nat_abs-add (a1 *ℤ a2) (b1 *ℤ b2), nat_abs_mul a1 a2, nat_abs_mul b1 b2)

-- ---- |X'| / m, m being the root of (p + e) / 2 for p = C1'C2' and e = d: at most 4 m + 12, since |X'| ≤ 2 p < 4 (m + 1)²;
-- and where m is large the bound of |X'| itself is enough

quotient_le : (x p e m : ℕ) → x ≤ 2 * p → x ≤ 4915200000000000000 → (p + e) / 2 < (m + 1) * (m + 1) → x / m ≤ 4615105632
quotient_le x p e zero h k l = rw (div-zero x) zero-le
quotient_le x p e (suc n) h k l = div-le_of_le-mul (suc n) (either (dec_le (suc n) 1120000000))
  where
    either : Dec (suc n ≤ 1120000000) → x ≤ suc n * 4615105632
    either (yes g) =
        let f : 4 * suc n + 12 ≤ 4615105632 = omega arith in
        omega (
          arith,
          mul-le-mul (le_refl (suc n)) f,
          mul-add (suc n) (4 * suc n) 12,
          mul_left_comm (suc n) 4 (suc n),
          add-mul (suc n) 1 (suc n + 1),
          mul-add (suc n) (suc n) 1,
        )
    either (no f) =
        let g : 1120000000 ≤ suc n = omega (arith, f) in
        omega (arith, mul-le-mul g (le_refl 4615105632))

-- the size of H by the sign of d, for p = C1'C2'
by_sign :
    (t : Bool) (x p : ℕ) (d : ℤ) → lt_z d (pos 0) ≡ t →
    x ≤ 2 * p → x ≤ 4915200000000000000 → p ≤ 5324800000000000000 → nat_abs d ≤ 5324800000000000000 →
    cond t (2 * root_of (nat_abs (pos p -ℤ d) / 2)) (x / root_of (nat_abs (pos p +ℤ d) / 2)) ≤ 4615105632
by_sign false x p d e h k u v =
    rw (plus-size p d e) (quotient_le x p (nat_abs d) (root_of ((p + nat_abs d) / 2)) h k (root-lt-next ((p + nat_abs d) / 2)))
by_sign true x p d e h k u v =
    let s : (p + nat_abs d) / 2 < 2307552817 * 2307552817 = omega arith in
    rw (minus-size p d e) (omega (arith, root_below ((p + nat_abs d) / 2) 2307552817 s))

pub hue-size-le :
    (a1 b1 : ℤ) (c1 : ℕ) (a2 b2 : ℤ) (c2 : ℕ) →
    Primed (nat_abs a1) (nat_abs b1) c1 → Primed (nat_abs a2) (nat_abs b2) c2 →
    hue_size a1 b1 c1 a2 b2 c2 ≤ 4615105632
unfolding hue_size
hue-size-le a1 b1 c1 a2 b2 c2 s t =
    by_sign (lt_z (dot_of a1 b1 a2 b2) (pos 0)) (nat_abs (cross_of a1 b1 a2 b2)) (c1 * c2) (dot_of a1 b1 a2 b2) refl
    (le_trans (cross-size a1 b1 a2 b2) (cross-chromas s t))
    (le_trans (cross-size a1 b1 a2 b2) (cross-sizes s t))
    (products-le s t)
    (le_trans (dot-size a1 b1 a2 b2) (dot-sizes s t))
