-- What the rounding means, whatever its definition's text: the nearest whole number, and of two that are equally near the even
-- one. Nothing else is that, and what stands above the definition uses this alone. Assumes nothing.
use Rattle.std.proofs.Common.{◌≡◌, ℕ, ◌+◌, ◌*◌, ◌/◌, ◌%◌, ◌<◌, ◌≤◌, Bool, true, false, cond, eqb, ltb, refl, subst, mul-le-mul_right, mod-lt, mul_assoc, add-mul, le_antisymm, lt_of_not-le, div-add-mod', le_of_mul-le-mul_right, arith, ltb-false, ltb-true, eqb-true}
use native.Mathlib.Decide.{dec_le}
use borrow.Author.Tests.{eqb-false}
use Rattle.fixed_point.specs.Rounding.{half_of, nearest_of}

-- n / c lies at most a half from r, and a half only where r is even
pub record IsNearest (n c r : ℕ) : Type 0 where
  pub under : 2 * n ≤ 2 * (r * c) + c
  pub over : 2 * (r * c) ≤ 2 * n + c
  pub even_under : 2 * n ≡ 2 * (r * c) + c → r % 2 ≡ 0
  pub even_over : 2 * (r * c) ≡ 2 * n + c → r % 2 ≡ 0

next-times : (q c : ℕ) → (q + 1) * c ≡ q * c + c
next-times q c = omega (arith, add-mul q 1 c)

module _ (n c : ℕ) (C : 0 < c) where
  -- ---- the three ways in which n / c lies between q and q + 1
  pub is_below : (q : ℕ) → q * c ≤ n → 2 * n < 2 * (q * c) + c → IsNearest n c q
  is_below q h k = omega arith

  pub is-above : (q : ℕ) → 2 * (q * c) + c < 2 * n → n < q * c + c → IsNearest n c (q + 1)
  is-above q h k = omega (arith, next-times q c)

  pub is-half : (q : ℕ) → 2 * n ≡ 2 * (q * c) + c → IsNearest n c (half_of q)
  unfolding half_of
  is-half q h = by-parity (dec_le (q % 2) 0)
    where
      at-even : q % 2 ≡ 0 → IsNearest n c q
      at-even p = omega arith

      at-odd : q % 2 ≡ 1 → IsNearest n c (q + 1)
      at-odd p = omega (arith, next-times q c)

      by-parity : Dec (q % 2 ≤ 0) → IsNearest n c (q + q % 2)
      by-parity (yes p) = subst (λ (r : ℕ). IsNearest n c r) (omega arith) (at-even (omega arith))
      by-parity (no f) = subst (λ (r : ℕ). IsNearest n c r) (omega (arith, lt_of_not-le f)) (at-odd (omega (arith, lt_of_not-le f)))

  -- ---- so the definition is that, and no other number is
  pub nearest-is : IsNearest n c (nearest_of n c)
  unfolding nearest_of
  nearest-is = by_tests (ltb (2 * (n % c)) c) (eqb (2 * (n % c)) c) refl refl
    where
      split : n / c * c + n % c ≡ n
      split = div-add-mod' n c

      left : n % c < c
      left = mod-lt n C

      by_tests : (s t : Bool) → ltb (2 * (n % c)) c ≡ s → eqb (2 * (n % c)) c ≡ t →
          IsNearest n c (cond s (n / c) (cond t (half_of (n / c)) (n / c + 1)))
      by_tests true t e f =
          let l : 2 * (n % c) < c = ltb-true _ _ e in
          is_below (n / c) (omega (arith, split)) (omega (arith, split))
      by_tests false true e f =
          let l : 2 * (n % c) ≡ c = eqb-true _ _ f in
          is-half (n / c) (omega (arith, split))
      by_tests false false e f =
          let l : c ≤ 2 * (n % c) = ltb-false _ _ e in
          let k : (2 * (n % c) ≡ c → ⊥) = eqb-false _ _ f in
          is-above (n / c) (omega (arith, split)) (omega (arith, split, left))

  -- a whole number that is at most a half above k is at most k
  half-apart : {r k : ℕ} → 2 * (r * c) ≤ 2 * (k * c) + c → r ≤ k
  half-apart {r} {k} h =
      let doubled : 2 * r * c ≤ (2 * k + 1) * c = omega (arith, mul_assoc 2 r c, next-times (2 * k) c, mul_assoc 2 k c) in
      omega (arith, le_of_mul-le-mul_right doubled C)

  -- two of them cannot be apart: both would lie a half from n / c, and one of two neighbours is odd
  apart : {r s : ℕ} → IsNearest n c r → IsNearest n c s → r < s → ⊥
  apart {r} {s} a b h =
      let next : r + 1 ≤ s = omega arith in
      let past : (r + 1) * c ≤ s * c = mul-le-mul_right c next in
      let step : (r + 1) * c ≡ r * c + c = next-times r c in
      let s-is : s ≤ r + 1 = half-apart (omega arith) in
      omega (arith, a.even_under (omega arith), b.even_over (omega arith))

  at_most-bound : {r s : ℕ} → IsNearest n c r → IsNearest n c s → r ≤ s
  at_most-bound {r} {s} a b = either (dec_le r s)
    where
      either : Dec (r ≤ s) → r ≤ s
      either (yes p) = p
      either (no f) = absurd (apart b a (lt_of_not-le f))

  pub nearest-unique : {r : ℕ} → IsNearest n c r → r ≡ nearest_of n c
  nearest-unique a = le_antisymm (at_most-bound a nearest-is) (at_most-bound nearest-is a)

  -- ---- where n / c is at most k, or at least, so is its nearest
  pub nearest-le : (k : ℕ) → n ≤ k * c → nearest_of n c ≤ k
  nearest-le k h = half-apart (omega (arith, nearest-is.over))

  pub nearest-ge : (k : ℕ) → k * c ≤ n → k ≤ nearest_of n c
  nearest-ge k h = half-apart (omega (arith, nearest-is.under))
