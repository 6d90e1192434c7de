-- Laws of ℤ's sign and size, and of `int`. Assumes nothing.
use mathlib.Core.Path.{◌≡◌, refl, sym, ap, ◌∙◌, subst}
use mathlib.Core.Bool.{Bool, true, false, cond}
use Prim.Native.Nat.{ℕ, zero, suc, ◌+◌, ◌-◌, ◌*◌, ◌/◌, ◌≤◌, ◌<◌}
use native.Mathlib.Nat.{le_refl, lt_irrefl, zero-div}
use native.Mathlib.Omega.{arith}
use borrow.Author.Tests.{eqb-true}
use lib.Dec.{ltb, eqb, leb-zero, leb-suc-zero, leb-suc-suc}
use lib.IntN.{ℤ, pos, negsuc, neg_ℤ, nat_abs, ◌+ℤ◌, ◌-ℤ◌, ◌*ℤ◌, neg_ℤ-neg_ℤ, neg_ℤ-+ℤ, +ℤ_comm, +ℤ_idl, -ℤ-+ℤ_cancel, *ℤ_comm, zero-*ℤ}
use lib.Signed.{lt_z, quot_z}
use Rattle.signed.specs.declared.Int.{Int}
use Rattle.signed.specs.Value.{with_sign}
use Rattle.signed.specs.Inner.{int}

-- ---- negation

pub nat_abs-neg : (x : ℤ) → nat_abs (neg_ℤ x) ≡ nat_abs x
nat_abs-neg (pos zero) = refl
nat_abs-neg (pos (suc n)) = refl
nat_abs-neg (negsuc n) = refl

pub neg-mul : (x y : ℤ) → neg_ℤ x *ℤ y ≡ neg_ℤ (x *ℤ y)
neg-mul (pos zero) y = zero-*ℤ y ∙ ap neg_ℤ (sym (zero-*ℤ y))
neg-mul (pos (suc m)) (pos n) = refl
neg-mul (pos (suc m)) (negsuc n) = sym (neg_ℤ-neg_ℤ _)
neg-mul (negsuc m) (pos n) = sym (neg_ℤ-neg_ℤ _)
neg-mul (negsuc m) (negsuc n) = refl

pub mul-neg : (x y : ℤ) → x *ℤ neg_ℤ y ≡ neg_ℤ (x *ℤ y)
mul-neg x y = *ℤ_comm x (neg_ℤ y) ∙ neg-mul y x ∙ ap neg_ℤ (*ℤ_comm y x)

pub neg-sub : (x y : ℤ) → neg_ℤ (x -ℤ y) ≡ y -ℤ x
neg-sub x y = neg_ℤ-+ℤ x (neg_ℤ y) ∙ ap (λ z. neg_ℤ x +ℤ z) (neg_ℤ-neg_ℤ y) ∙ +ℤ_comm (neg_ℤ x) y

-- the quotient toward zero of either sign
pub neg-quot : (x y : ℤ) → quot_z (neg_ℤ x) y ≡ neg_ℤ (quot_z x y)
neg-quot (pos zero) (pos k) = rw zero-div
neg-quot (pos zero) (negsuc k) = rw zero-div
neg-quot (pos (suc m)) (pos k) = refl
neg-quot (pos (suc m)) (negsuc k) = sym (neg_ℤ-neg_ℤ _)
neg-quot (negsuc m) (pos k) = sym (neg_ℤ-neg_ℤ _)
neg-quot (negsuc m) (negsuc k) = refl

pub quot-neg : (x : ℤ) (k : ℕ) → quot_z (neg_ℤ x) (pos k) ≡ neg_ℤ (quot_z x (pos k))
quot-neg x k = neg-quot x (pos k)

-- ---- sizes

pub nat_abs_mul : (x y : ℤ) → nat_abs (x *ℤ y) ≡ nat_abs x * nat_abs y
nat_abs_mul (pos m) (pos n) = refl
nat_abs_mul (pos m) (negsuc n) = nat_abs-neg (pos (m * suc n))
nat_abs_mul (negsuc m) (pos n) = nat_abs-neg (pos (suc m * n))
nat_abs_mul (negsuc m) (negsuc n) = refl

pub nat_abs-quot : (x : ℤ) (k : ℕ) → nat_abs (quot_z x (pos k)) ≡ nat_abs x / k
nat_abs-quot (pos m) k = refl
nat_abs-quot (negsuc m) k = nat_abs-neg (pos (suc m / k))

-- of `sub_ℕ a (suc b)`, by its test
apart : (t : Bool) (a b : ℕ) → nat_abs (cond t (negsuc (suc b - suc a)) (pos (a - suc b))) ≤ a + suc b
apart true a b = omega arith
apart false a b = omega arith

pub nat_abs-add : (x y : ℤ) → nat_abs (x +ℤ y) ≤ nat_abs x + nat_abs y
nat_abs-add (pos m) (pos n) = le_refl _
nat_abs-add (pos m) (negsuc n) = apart (ltb m (suc n)) m n
nat_abs-add (negsuc m) (pos n) = let h : nat_abs (negsuc m +ℤ pos n) ≤ n + suc m = apart (ltb n (suc m)) n m in omega arith
nat_abs-add (negsuc m) (negsuc n) = omega arith

-- ---- the order

zero-lt : (n : ℕ) → ltb zero (suc n) ≡ true
zero-lt n = leb-suc-suc zero n ∙ leb-zero n

pub lt-neg : (x y : ℤ) → lt_z (neg_ℤ x) (neg_ℤ y) ≡ lt_z y x
lt-neg (pos zero) (pos zero) = refl
lt-neg (pos zero) (pos (suc n)) = sym (leb-suc-zero (suc n))
lt-neg (pos (suc m)) (pos zero) = sym (zero-lt m)
lt-neg (pos (suc m)) (pos (suc n)) = sym (leb-suc-suc (suc n) m)
lt-neg (pos zero) (negsuc n) = zero-lt n
lt-neg (pos (suc m)) (negsuc n) = refl
lt-neg (negsuc m) (pos zero) = leb-suc-zero (suc m)
lt-neg (negsuc m) (pos (suc n)) = refl
lt-neg (negsuc m) (negsuc n) = leb-suc-suc (suc m) n

-- the signs differ, or one is zero
pub lt-neg-pos : (m n : ℕ) → 0 < m → lt_z (neg_ℤ (pos m)) (pos n) ≡ true
lt-neg-pos zero n h = absurd (lt_irrefl 0 h)
lt-neg-pos (suc m) n h = refl

pub lt-pos-neg : (m n : ℕ) → lt_z (pos m) (neg_ℤ (pos n)) ≡ false
lt-pos-neg m zero = leb-suc-zero m
lt-pos-neg m (suc n) = refl

-- ---- a sign and a size

pub int-true : (a : Int) → a.neg ≡ true → int a ≡ neg_ℤ (pos a.n)
unfolding int
int-true a h = ap (λ s. with_sign s a.n) h

pub int-false : (a : Int) → a.neg ≡ false → int a ≡ pos a.n
unfolding int
int-false a h = ap (λ s. with_sign s a.n) h

pub sign-size : (s : Bool) (n : ℕ) → nat_abs (with_sign s n) ≡ n
sign-size false n = refl
sign-size true n = nat_abs-neg (pos n)

pub int-size : (a : Int) → nat_abs (int a) ≡ a.n
unfolding int
int-size a = sign-size a.neg a.n

pub size_of : (x : Int) {k : ℕ} → nat_abs (int x) ≤ k → x.n ≤ k
size_of x {k} h = subst (λ (n : ℕ). n ≤ k) (int-size x) h

-- ---- zero

pub size-zero : (x : ℤ) → eqb (nat_abs x) 0 ≡ true → x ≡ pos 0
size-zero (pos n) e = ap pos (eqb-true n 0 e)
size-zero (negsuc n) e = absurd (none n (eqb-true (suc n) 0 e))
  where
    none : (n : ℕ) → suc n ≡ 0 → ⊥
    none n e = omega arith

pub difference-zero : (x y : ℤ) → x -ℤ y ≡ pos 0 → x ≡ y
difference-zero x y e = sym (-ℤ-+ℤ_cancel x y) ∙ ap (λ w. w +ℤ y) e ∙ +ℤ_idl y
