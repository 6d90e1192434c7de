-- The chord: the distance of two points in the plane of a' and b' is no longer than dC' and H together, but for what the roots drop.
-- Assumes nothing.
use mathlib.Core.Path.{◌≡◌, refl, sym}
use mathlib.Core.Bool.{Bool, true, false, cond, true≢false}
use Prim.Native.Nat.{ℕ, zero, suc, ◌+◌, ◌-◌, ◌*◌, ◌/◌, ◌≤◌, ◌<◌}
use native.Mathlib.Nat.{le_trans, le_of_eq, mul-le-mul, mul-le-mul_left, mul-le-mul_right, lt-div-mul-add}
use native.Mathlib.Decide.{dec_le}
use native.Mathlib.Omega.{arith}
use borrow.Author.Tests.{ltb-true}
use lib.IntN.{ℤ, pos, negsuc, nat_abs, ◌+ℤ◌, ◌-ℤ◌}
use lib.Signed.{lt_z}
use Rattle.isqrt.specs.Root.{root_of}
use Rattle.isqrt.proofs.RootLaws.{root-square-le, root-lt-next}
use Rattle.hue_difference.specs.HueDifference.{cross_of, dot_of, hue_size}
use Rattle.signed.proofs.Squares.{square_le, above, below, norm1, norm2, lagrange}

-- ---- of plain sizes: p = C1'C2', e = |d|, x = |X'|, m the root in step 7

-- p = e + k and (h + 1)² ≤ 2 k cannot be
too_far : (e k x m h : ℕ) → (e + k) * (e + k) ≤ e * e + x * x → 2 * (m * m) ≤ e + k + e → x < (h + 1) * m → (h + 1) * (h + 1) ≤ 2 * k → ⊥
too_far e k x m h a b c d =
    let f : (x + 1) * (x + 1) ≤ (h + 1) * m * ((h + 1) * m) = square_le (omega arith) in
    let g : (h + 1) * (h + 1) * (2 * (m * m)) ≤ (h + 1) * (h + 1) * (e + k + e) = mul-le-mul_left ((h + 1) * (h + 1)) b in
    let i : (h + 1) * (h + 1) * (e + k + e) ≤ 2 * k * (e + k + e) = mul-le-mul_right (e + k + e) d in
    omega (arith, a, f, g, i)

acute-at : (p e x m : ℕ) → p * p ≤ e * e + x * x → m * m ≤ (p + e) / 2 → (p + e) / 2 < (m + 1) * (m + 1)
    → 2 * p ≤ 2 * e + (x / m + 2) * (x / m + 2)
acute-at p e x zero a b c = omega arith
acute-at p e x (suc n) a b c = either (dec_le (2 * p) (2 * e + (x / suc n + 2) * (x / suc n + 2)))
  where
    either : Dec (2 * p ≤ 2 * e + (x / suc n + 2) * (x / suc n + 2)) → 2 * p ≤ 2 * e + (x / suc n + 2) * (x / suc n + 2)
    either (yes h) = h
    either (no f) =
        let h : ℕ = x / suc n in
        let over : 2 * e + (h + 2) * (h + 2) < 2 * p = omega (arith, f) in
        let more : e + (p - e) ≡ p = omega arith in
        let quotient : x < h * suc n + suc n = lt-div-mul-add (omega arith) in
        absurd (too_far e (p - e) x (suc n) h (rw more a) (omega arith) (omega (arith, quotient)) (omega (arith, over, more)))

acute : (p e x : ℕ) → p * p ≤ e * e + x * x → 2 * p ≤ 2 * e + (x / root_of ((p + e) / 2) + 2) * (x / root_of ((p + e) / 2) + 2)
acute p e x a = acute-at p e x (root_of ((p + e) / 2)) a (root-square-le ((p + e) / 2)) (root-lt-next ((p + e) / 2))

obtuse : (p e : ℕ) → 2 * p + 2 * e ≤ (2 * root_of ((p + e) / 2) + 2) * (2 * root_of ((p + e) / 2) + 2)
obtuse p e = omega (arith, root-lt-next ((p + e) / 2))

-- by the sign of d
by_sign : (t : Bool) (d : ℤ) (p x : ℕ) → lt_z d (pos 0) ≡ t → p * p ≤ nat_abs d * nat_abs d + x * x
    → 2 * p + 2 * below d ≤ 2 * above d +
    (cond t (2 * root_of (nat_abs (pos p -ℤ d) / 2)) (x / root_of (nat_abs (pos p +ℤ d) / 2)) + 2) *
    (cond t (2 * root_of (nat_abs (pos p -ℤ d) / 2)) (x / root_of (nat_abs (pos p +ℤ d) / 2)) + 2)
by_sign false (pos e) p x t a = omega (arith, acute p e x a)
by_sign true (pos e) p x t a = absurd (none e (ltb-true e 0 t))
  where
    none : (n : ℕ) → n < 0 → ⊥
    none n h = omega arith
by_sign true (negsuc e) p x t a = omega (arith, obtuse p (suc e))
by_sign false (negsuc e) p x t a = absurd (true≢false t)

-- ---- of two points

module _ (a1 b1 : ℤ) (c1 : ℕ) (a2 b2 : ℤ) (c2 : ℕ)
    (r1 : c1 * c1 ≤ nat_abs a1 * nat_abs a1 + nat_abs b1 * nat_abs b1)
    (r2 : c2 * c2 ≤ nat_abs a2 * nat_abs a2 + nat_abs b2 * nat_abs b2) where
  -- (C1'C2')² is at most d² + X'²
  pub chromas-le : c1 * c2 * (c1 * c2)
      ≤ nat_abs (dot_of a1 b1 a2 b2) * nat_abs (dot_of a1 b1 a2 b2) + nat_abs (cross_of a1 b1 a2 b2) * nat_abs (cross_of a1 b1 a2 b2)
  unfolding dot_of cross_of
  chromas-le =
      let m : c1 * c1 * (c2 * c2) ≤ norm1 a1 b1 a2 b2 * norm2 a1 b1 a2 b2 = mul-le-mul r1 r2 in
      le_trans (omega arith) (le_trans m (le_of_eq (sym (lagrange a1 b1 a2 b2))))

  -- 2 (C1'C2' - d) is at most (|H| + 2)²
  pub size-chord : 2 * (c1 * c2) + 2 * below (dot_of a1 b1 a2 b2) ≤ 2 * above (dot_of a1 b1 a2 b2) +
      (hue_size a1 b1 c1 a2 b2 c2 + 2) * (hue_size a1 b1 c1 a2 b2 c2 + 2)
  unfolding hue_size
  size-chord = by_sign (lt_z (dot_of a1 b1 a2 b2) (pos 0)) (dot_of a1 b1 a2 b2) (c1 * c2) (nat_abs (cross_of a1 b1 a2 b2)) refl chromas-le
