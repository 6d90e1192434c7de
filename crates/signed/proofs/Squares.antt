-- Squares of sums and differences of integers, and Lagrange's identity (a1 a2 + b1 b2)² + (a1 b2 - a2 b1)² = (a1² + b1²)(a2² + b2²).
-- An integer is taken apart into what of it is above zero and what is below, so that each equation is one of natural numbers.
-- And the sizes of differences.
-- Assumes nothing.
use mathlib.Core.Path.{◌≡◌, refl, sym, ap, ◌∙◌}
use mathlib.Core.Bool.{Bool, true, false, cond}
use Prim.Native.Nat.{ℕ, zero, suc, ◌+◌, ◌-◌, ◌*◌, ◌≤◌, ◌<◌}
use native.Mathlib.Nat.{mul_assoc, mul-le-mul, le_dest}
use native.Mathlib.Decide.{dec_le}
use native.Mathlib.Omega.{arith}
use lib.Dec.{ltb}
use borrow.Author.Tests.{ltb-true, ltb-false}
use lib.IntN.{ℤ, pos, negsuc, neg_ℤ, nat_abs, ◌+ℤ◌, ◌-ℤ◌, ◌*ℤ◌, *ℤ_comm, neg_ℤ-neg_ℤ, neg_ℤ-+ℤ}
use Rattle.signed.proofs.SignedLaws.{nat_abs-neg, nat_abs_mul, mul-neg, neg-mul, neg-sub, int-size}
use Rattle.signed.proofs.Results.{apart-down, apart-up}

-- ---- squares of natural numbers

pub square_le : {x k : ℕ} → x ≤ k → x * x ≤ k * k
square_le h = mul-le-mul h h

pub square-cancel : (x k : ℕ) → x * x ≤ k * k → x ≤ k
square-cancel x k h = by_order (dec_le x k)
  where
    by_order : Dec (x ≤ k) → x ≤ k
    by_order (yes l) = l
    by_order (no f) = let l : k + 1 ≤ x = omega (arith, f) in absurd (omega (arith, square_le l))

rising : (x y : ℕ) → x ≤ y → 2 * (x * y) ≤ x * x + y * y
rising x y h = let d = le_dest h in rw (← d.1) (omega arith)

-- 2 x y is at most x² + y²
pub product_le : (x y : ℕ) → 2 * (x * y) ≤ x * x + y * y
product_le x y = by_order (dec_le x y)
  where
    by_order : Dec (x ≤ y) → 2 * (x * y) ≤ x * x + y * y
    by_order (yes h) = rising x y h
    by_order (no f) = omega (arith, rising y x (omega (arith, f)))

-- ---- what of an integer is above zero, and what is below

abbrev pub above : ℤ → ℕ
above (pos n) = n
above (negsuc n) = 0

abbrev pub below : ℤ → ℕ
below (pos n) = 0
below (negsuc n) = suc n

pub above-neg : (z : ℤ) → above (neg_ℤ z) ≡ below z
above-neg (pos zero) = refl
above-neg (pos (suc n)) = refl
above-neg (negsuc n) = refl

pub below-neg : (z : ℤ) → below (neg_ℤ z) ≡ above z
below-neg (pos zero) = refl
below-neg (pos (suc n)) = refl
below-neg (negsuc n) = refl

-- ---- sums

-- of `sub_ℕ m (suc n)`, by its test
apart-sum : (t : Bool) (m n : ℕ) → ltb m (suc n) ≡ t
    → above (cond t (negsuc (suc n - suc m)) (pos (m - suc n))) + suc n ≡ below (cond t (negsuc (suc n - suc m)) (pos (m - suc n))) + m
apart-sum true m n e = let h : m < suc n = ltb-true m (suc n) e in omega arith
apart-sum false m n e = let h : suc n ≤ m = ltb-false m (suc n) e in omega arith

pub sum-parts : (u v : ℤ) → above (u +ℤ v) + (below u + below v) ≡ below (u +ℤ v) + (above u + above v)
sum-parts (pos m) (pos n) = omega arith
sum-parts (pos m) (negsuc n) = omega (arith, apart-sum (ltb m (suc n)) m n refl)
sum-parts (negsuc m) (pos n) = omega (arith, apart-sum (ltb n (suc m)) n m refl)
sum-parts (negsuc m) (negsuc n) = omega arith

-- ---- squares of sums

-- (x - y)² + 2 x y = x² + y², where d is the size of x - y
apart-square : (x y d : ℕ) → d + y ≡ x → d * d + 2 * (x * y) ≡ x * x + y * y
apart-square x y d e = rw (← e) (omega arith)

apart-squared : (t : Bool) (m n : ℕ) → ltb m (suc n) ≡ t
    → nat_abs (cond t (negsuc (suc n - suc m)) (pos (m - suc n))) * nat_abs (cond t (negsuc (suc n - suc m)) (pos (m - suc n)))
    + 2 * (m * suc n) ≡ m * m + suc n * suc n
apart-squared true m n e =
    let h : m < suc n = ltb-true m (suc n) e in
    omega (arith, apart-square (suc n) m (suc (suc n - suc m)) (omega arith))
apart-squared false m n e =
    let h : suc n ≤ m = ltb-false m (suc n) e in
    apart-square m (suc n) (m - suc n) (omega arith)

-- (u + v)² = u² + v² + 2 u v
pub sum-square : (u v : ℤ)
    → nat_abs (u +ℤ v) * nat_abs (u +ℤ v) + 2 * below (u *ℤ v) ≡ nat_abs u * nat_abs u + nat_abs v * nat_abs v + 2 * above (u *ℤ v)
sum-square (pos m) (pos n) = omega arith
sum-square (pos m) (negsuc n) = omega (arith, apart-squared (ltb m (suc n)) m n refl, above-neg (pos (m * suc n)), below-neg (pos (m * suc n)))
sum-square (negsuc m) (pos n) = omega (arith, apart-squared (ltb n (suc m)) n m refl, above-neg (pos (suc m * n)), below-neg (pos (suc m * n)))
sum-square (negsuc m) (negsuc n) = omega arith

-- (u - v)² = u² + v² - 2 u v
pub difference-square : (u v : ℤ)
    → nat_abs (u -ℤ v) * nat_abs (u -ℤ v) + 2 * above (u *ℤ v) ≡ nat_abs u * nat_abs u + nat_abs v * nat_abs v + 2 * below (u *ℤ v)
difference-square u v =
    let s = sum-square u (neg_ℤ v) in
    let a : above (u *ℤ neg_ℤ v) ≡ below (u *ℤ v) = ap above (mul-neg u v) ∙ above-neg (u *ℤ v) in
    let b : below (u *ℤ neg_ℤ v) ≡ above (u *ℤ v) = ap below (mul-neg u v) ∙ below-neg (u *ℤ v) in
    let n : nat_abs (neg_ℤ v) * nat_abs (neg_ℤ v) ≡ nat_abs v * nat_abs v = ap (λ (k : ℕ). k * k) (nat_abs-neg v) in
    omega (arith, s, a, b, n)

-- ---- the product is associative

assoc-natural : (m n : ℕ) (z : ℤ) → pos m *ℤ pos n *ℤ z ≡ pos m *ℤ (pos n *ℤ z)
assoc-natural m n (pos k) = ap pos (mul_assoc m n k)
assoc-natural m n (negsuc k) =
    mul-neg (pos m *ℤ pos n) (pos (suc k)) ∙ ap neg_ℤ (ap pos (mul_assoc m n (suc k))) ∙ sym (mul-neg (pos m) (pos n *ℤ pos (suc k))) ∙
    ap (λ x. pos m *ℤ x) (sym (mul-neg (pos n) (pos (suc k))))

assoc-middle : (m : ℕ) (y z : ℤ) → pos m *ℤ y *ℤ z ≡ pos m *ℤ (y *ℤ z)
assoc-middle m (pos n) z = assoc-natural m n z
assoc-middle m (negsuc n) z =
    ap (λ x. x *ℤ z) (mul-neg (pos m) (pos (suc n))) ∙ neg-mul (pos m *ℤ pos (suc n)) z ∙ ap neg_ℤ (assoc-natural m (suc n) z) ∙
    sym (mul-neg (pos m) (pos (suc n) *ℤ z)) ∙ ap (λ x. pos m *ℤ x) (sym (neg-mul (pos (suc n)) z))

pub product-assoc : (x y z : ℤ) → x *ℤ y *ℤ z ≡ x *ℤ (y *ℤ z)
product-assoc (pos m) y z = assoc-middle m y z
product-assoc (negsuc m) y z =
    ap (λ x. x *ℤ z) (neg-mul (pos (suc m)) y) ∙ neg-mul (pos (suc m) *ℤ y) z ∙ ap neg_ℤ (assoc-middle (suc m) y z) ∙
    sym (neg-mul (pos (suc m)) (y *ℤ z))

-- (x y)(z w) = (x w)(y z)
pub product-exchange : (x y z w : ℤ) → x *ℤ y *ℤ (z *ℤ w) ≡ x *ℤ w *ℤ (y *ℤ z)
product-exchange x y z w =
    product-assoc x y (z *ℤ w) ∙
    ap (λ t. x *ℤ t) (sym (product-assoc y z w) ∙ *ℤ_comm (y *ℤ z) w) ∙
    sym (product-assoc x w (y *ℤ z))

-- ---- Lagrange's identity

square-mul : (x y : ℤ) → nat_abs (x *ℤ y) * nat_abs (x *ℤ y) ≡ nat_abs x * nat_abs x * (nat_abs y * nat_abs y)
square-mul x y = ap (λ (n : ℕ). n * n) (nat_abs_mul x y) ∙ omega arith

module _ (a1 b1 a2 b2 : ℤ) where
  abbrev pub norm1 : ℕ
  norm1 = nat_abs a1 * nat_abs a1 + nat_abs b1 * nat_abs b1

  abbrev pub norm2 : ℕ
  norm2 = nat_abs a2 * nat_abs a2 + nat_abs b2 * nat_abs b2

  pub lagrange :
      nat_abs (a1 *ℤ a2 +ℤ b1 *ℤ b2) * nat_abs (a1 *ℤ a2 +ℤ b1 *ℤ b2) + nat_abs (a1 *ℤ b2 -ℤ a2 *ℤ b1) * nat_abs (a1 *ℤ b2 -ℤ a2 *ℤ b1)
      ≡ norm1 * norm2
  lagrange =
      let e : a1 *ℤ a2 *ℤ (b1 *ℤ b2) ≡ a1 *ℤ b2 *ℤ (a2 *ℤ b1) = product-exchange a1 a2 b1 b2 in
      let p : above (a1 *ℤ a2 *ℤ (b1 *ℤ b2)) ≡ above (a1 *ℤ b2 *ℤ (a2 *ℤ b1)) = ap above e in
      let q : below (a1 *ℤ a2 *ℤ (b1 *ℤ b2)) ≡ below (a1 *ℤ b2 *ℤ (a2 *ℤ b1)) = ap below e in
      omega (
        arith,
        p,
        q,
        sum-square (a1 *ℤ a2) (b1 *ℤ b2),
        difference-square (a1 *ℤ b2) (a2 *ℤ b1),
        square-mul a1 a2,
        square-mul b1 b2,
        square-mul a1 b2,
        square-mul a2 b1,
      )

  -- the square of the distance, with the product a1 a2 + b1 b2 taken apart
  pub distance-square :
      nat_abs (a2 -ℤ a1) * nat_abs (a2 -ℤ a1) + nat_abs (b2 -ℤ b1) * nat_abs (b2 -ℤ b1) + 2 * above (a1 *ℤ a2 +ℤ b1 *ℤ b2) ≡
      norm1 + norm2 + 2 * below (a1 *ℤ a2 +ℤ b1 *ℤ b2)
  distance-square =
      let pa : above (a2 *ℤ a1) ≡ above (a1 *ℤ a2) = ap above (*ℤ_comm a2 a1) in
      let qa : below (a2 *ℤ a1) ≡ below (a1 *ℤ a2) = ap below (*ℤ_comm a2 a1) in
      let pb : above (b2 *ℤ b1) ≡ above (b1 *ℤ b2) = ap above (*ℤ_comm b2 b1) in
      let qb : below (b2 *ℤ b1) ≡ below (b1 *ℤ b2) = ap below (*ℤ_comm b2 b1) in
      omega (arith, pa, qa, pb, qb, difference-square a2 a1, difference-square b2 b1, sum-parts (a1 *ℤ a2) (b1 *ℤ b2))

-- ---- sizes of differences

pub apart-size : (m n : ℕ) → nat_abs (pos m -ℤ pos n) ≡ m - n + (n - m)
apart-size m n = by_order (dec_le n m)
  where
    by_order : Dec (n ≤ m) → nat_abs (pos m -ℤ pos n) ≡ m - n + (n - m)
    by_order (yes h) =
        let e : nat_abs (pos m -ℤ pos n) ≡ m - n = sym (ap nat_abs (apart-down m n h).is) ∙ int-size _ in
        omega arith
    by_order (no f) =
        let h : m < n = omega (arith, f) in
        let e : nat_abs (pos m -ℤ pos n) ≡ n - m = sym (ap nat_abs (apart-up m n h).is) ∙ int-size _ in
        omega arith

pub size-swap : (x y : ℤ) → nat_abs (x -ℤ y) ≡ nat_abs (y -ℤ x)
size-swap x y = sym (nat_abs-neg (x -ℤ y)) ∙ ap nat_abs (neg-sub x y)

pub size-neg : (x y : ℤ) → nat_abs (neg_ℤ x -ℤ neg_ℤ y) ≡ nat_abs (x -ℤ y)
size-neg x y = ap nat_abs (sym (neg_ℤ-+ℤ x (neg_ℤ y))) ∙ nat_abs-neg (x -ℤ y)

pub size-sum : (m n : ℕ) → nat_abs (pos m -ℤ neg_ℤ (pos n)) ≡ m + n
size-sum m n = ap (λ z. nat_abs (pos m +ℤ z)) (neg_ℤ-neg_ℤ (pos n))
