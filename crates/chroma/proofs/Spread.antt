-- Step 3 brings no two samples nearer together: |a2' - a1'| is at least 1000 |a2 - a1|, and |b2' - b1'| is 1000 |b2 - b1|. Assumes nothing.
use mathlib.Core.Path.{◌≡◌, refl, sym, ap, ap₂, ◌∙◌}
use Prim.Native.Nat.{ℕ, suc, ◌+◌, ◌-◌, ◌*◌, ◌/◌, ◌≤◌, ◌<◌}
use native.Mathlib.Nat.{le_trans, le_of_eq, mul-le-mul_left}
use native.Mathlib.Decide.{dec_le}
use native.Mathlib.Omega.{arith}
use lib.IntN.{ℤ, pos, negsuc, neg_ℤ, nat_abs, ◌-ℤ◌}
use Rattle.signed.proofs.Squares.{apart-size, size-swap, size-neg, size-sum}
use Rattle.chroma.specs.Chroma.{primed_a, in_ten_millionths}
use Rattle.chroma.proofs.ChromaLaws.{primed_a-neg, in_ten_millionths-neg}

-- ---- an odd f that on naturals grows by at least 1000 a step

module _ (f : ℤ → ℤ) (size : ℕ → ℕ) (natural : (n : ℕ) → f (pos n) ≡ pos (size n)) (odd : (x : ℤ) → f (neg_ℤ x) ≡ neg_ℤ (f x))
    (grows : (m k : ℕ) → size m + 1000 * k ≤ size (m + k)) where
  naturals : (m n : ℕ) → 1000 * nat_abs (pos m -ℤ pos n) ≤ nat_abs (pos (size m) -ℤ pos (size n))
  naturals m n = by_order (dec_le n m)
    where
      by_order : Dec (n ≤ m) → 1000 * nat_abs (pos m -ℤ pos n) ≤ nat_abs (pos (size m) -ℤ pos (size n))
      by_order (yes h) =
          let e : n + (m - n) ≡ m = omega arith in
          let g : size n + 1000 * (m - n) ≤ size m = rw e at (grows n (m - n)) in
          omega (arith, apart-size m n, apart-size (size m) (size n))
      by_order (no f) =
          let l : m < n = omega (arith, f) in
          let e : m + (n - m) ≡ n = omega arith in
          let g : size m + 1000 * (n - m) ≤ size n = rw e at (grows m (n - m)) in
          omega (arith, apart-size m n, apart-size (size m) (size n))

  at_least : (n : ℕ) → 1000 * n ≤ size n
  at_least n = let e : 0 + n ≡ n = omega arith in let g : size 0 + 1000 * n ≤ size n = rw e at (grows 0 n) in omega arith

  at-negative : (n : ℕ) → f (negsuc n) ≡ neg_ℤ (pos (size (suc n)))
  at-negative n = odd (pos (suc n)) ∙ ap neg_ℤ (natural (suc n))

  both-signs : (m n : ℕ) → 1000 * nat_abs (pos m -ℤ negsuc n) ≤ nat_abs (f (pos m) -ℤ f (negsuc n))
  both-signs m n =
      let e : nat_abs (f (pos m) -ℤ f (negsuc n)) ≡ size m + size (suc n) =
      ap nat_abs (ap₂ ◌-ℤ◌ (natural m) (at-negative n)) ∙ size-sum (size m) (size (suc n)) in
      omega (arith, at_least m, at_least (suc n), e)

  pub spread : (x y : ℤ) → 1000 * nat_abs (x -ℤ y) ≤ nat_abs (f x -ℤ f y)
  spread (pos m) (pos n) = le_trans (naturals m n) (le_of_eq (sym (ap nat_abs (ap₂ ◌-ℤ◌ (natural m) (natural n)))))
  spread (pos m) (negsuc n) = both-signs m n
  spread (negsuc m) (pos n) = omega (arith, both-signs n m, size-swap (pos n) (negsuc m), size-swap (f (pos n)) (f (negsuc m)))
  spread (negsuc m) (negsuc n) =
      let e : nat_abs (f (negsuc m) -ℤ f (negsuc n)) ≡ nat_abs (pos (size (suc m)) -ℤ pos (size (suc n))) =
      ap nat_abs (ap₂ ◌-ℤ◌ (at-negative m) (at-negative n)) ∙ size-neg (pos (size (suc m))) (pos (size (suc n))) in
      omega (arith, naturals (suc m) (suc n), size-neg (pos (suc m)) (pos (suc n)), e)

-- ---- a' and b'

a-grows : (z : ℕ) → z ≤ 1000000000 → (m k : ℕ) → m * (3000000000 - z) / 2000000 + 1000 * k ≤ (m + k) * (3000000000 - z) / 2000000
a-grows z h m k = of-factor (3000000000 - z) (omega arith)
  where
    of-factor : (g : ℕ) → 2000000000 ≤ g → m * g / 2000000 + 1000 * k ≤ (m + k) * g / 2000000
    of-factor g l =
        let e : (m + k) * g ≡ m * g + k * g = omega arith in
        let p : k * 2000000000 ≤ k * g = mul-le-mul_left k l in
        rw e (omega arith)

pub primed_a-spread : (a1 a2 : ℤ) (z : ℕ) → z ≤ 1000000000 → 1000 * nat_abs (a2 -ℤ a1) ≤ nat_abs (primed_a a2 z -ℤ primed_a a1 z)
unfolding primed_a
primed_a-spread a1 a2 z h = spread (λ a. primed_a a z) (λ n. n * (3000000000 - z) / 2000000) (λ n. refl) (λ a. primed_a-neg a z) (a-grows z h) a2 a1

pub in_ten_millionths-spread : (b1 b2 : ℤ) → 1000 * nat_abs (b2 -ℤ b1) ≤ nat_abs (in_ten_millionths b2 -ℤ in_ten_millionths b1)
unfolding in_ten_millionths
in_ten_millionths-spread b1 b2 = spread in_ten_millionths (λ n. n * 1000) (λ n. refl) in_ten_millionths-neg (λ m k. omega arith) b2 b1
