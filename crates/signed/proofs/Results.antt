-- What each function's result is, for the proofs of the functions. Assumes nothing.
use mathlib.Core.Path.{◌≡◌, refl, sym, ap, ap₂, ◌∙◌}
use mathlib.Core.Bool.{Bool, true, false, not, ◌&&◌, beq, true≢false}
use Prim.Native.Nat.{ℕ, ◌+◌, ◌-◌, ◌*◌, ◌/◌, ◌≤◌, ◌<◌}
use native.Mathlib.Nat.{le_refl, le_trans, le-max_left, le-max_right}
use native.Mathlib.Decide.{dec_lt}
use native.Mathlib.Omega.{arith}
use borrow.Author.Tests.{lt-ltb, le-ltb}
use lib.Dec.{ltb}
use lib.IntN.{ℤ, pos, neg_ℤ, ◌+ℤ◌, ◌-ℤ◌, ◌*ℤ◌, neg_ℤ-neg_ℤ, neg_ℤ-+ℤ, +ℤ_comm, +ℤ-neg_ℤ_cancel}
use lib.Signed.{lt_z, quot_z}
use Rattle.signed.specs.declared.Int.{Int}
use Rattle.signed.specs.Value.{with_sign}
use Rattle.signed.specs.Inner.{int, Exactly, Within, Apart}
use Rattle.signed.proofs.SignedLaws.{mul-neg, neg-mul, neg-quot, neg-sub, lt-neg, lt-pos-neg, int-true, int-false}

sign-not : (s : Bool) (n : ℕ) → with_sign (not s) n ≡ neg_ℤ (with_sign s n)
sign-not false n = refl
sign-not true n = sym (neg_ℤ-neg_ℤ (pos n))

pub negated-is : (a : Int) → Exactly (neg_ℤ (int a)) a.n (record { neg = not a.neg; n = a.n })
unfolding int
negated-is a = record { is = sign-not a.neg a.n; size = refl }

-- ---- the product, and the quotient by a natural: f is odd in its arguments, and g is f on naturals

module _ (f : ℤ → ℤ → ℤ) (g : ℕ → ℕ → ℕ) (natural : (m n : ℕ) → f (pos m) (pos n) ≡ pos (g m n))
    (left : (x y : ℤ) → f (neg_ℤ x) y ≡ neg_ℤ (f x y)) where
  odd-left : (s : Bool) (m n : ℕ) → with_sign s (g m n) ≡ f (with_sign s m) (pos n)
  odd-left false m n = sym (natural m n)
  odd-left true m n = sym (left (pos m) (pos n) ∙ ap neg_ℤ (natural m n))

  odd-both : ((x y : ℤ) → f x (neg_ℤ y) ≡ neg_ℤ (f x y)) → (s t : Bool) (m n : ℕ) → with_sign (not (beq s t)) (g m n) ≡ f
      (with_sign s m) (with_sign t n)
  odd-both right false false m n = odd-left false m n
  odd-both right true false m n = odd-left true m n
  odd-both right false true m n = ap neg_ℤ (odd-left false m n) ∙ sym (right (pos m) (pos n))
  odd-both right true true m n = sym (neg_ℤ-neg_ℤ _) ∙ ap neg_ℤ (odd-left true m n) ∙ sym (right (neg_ℤ (pos m)) (pos n))

pub product_is : (a b : Int) → Exactly (int a *ℤ int b) (a.n * b.n) (record { neg = not (beq a.neg b.neg); n = a.n * b.n })
unfolding int
product_is a b = record { is = odd-both ◌*ℤ◌ ◌*◌ (λ m n. refl) neg-mul mul-neg a.neg b.neg a.n b.n; size = refl }

pub scaled-is : (a : Int) (k : ℕ) → Exactly (int a *ℤ pos k) (a.n * k) (record { neg = a.neg; n = a.n * k })
unfolding int
scaled-is a k = record { is = odd-left ◌*ℤ◌ ◌*◌ (λ m n. refl) neg-mul a.neg a.n k; size = refl }

pub divided-is : (a : Int) (k : ℕ) → Exactly (quot_z (int a) (pos k)) (a.n / k) (record { neg = a.neg; n = a.n / k })
unfolding int
divided-is a k = record { is = odd-left quot_z ◌/◌ (λ m n. refl) neg-quot a.neg a.n k; size = refl }

-- ---- the sum and the difference

sub-natural : (x y : ℕ) → y ≤ x → pos (x - y) ≡ pos x -ℤ pos y
sub-natural x y h =
    let e : x - y + y ≡ x = omega arith in sym (+ℤ-neg_ℤ_cancel (pos (x - y)) (pos y)) ∙ ap (λ n. pos n -ℤ pos y) e

pub apart-down : (x y : ℕ) → y ≤ x → Apart x y (record { neg = false; n = x - y })
unfolding int
apart-down x y h = record { is = sub-natural x y h; size = omega arith; most = le_trans (omega arith) (le-max_left x y) }

pub apart-up : (x y : ℕ) → x < y → Apart x y (record { neg = true; n = y - x })
unfolding int
apart-up x y h =
    record {
      is = ap neg_ℤ (sub-natural y x (omega arith)) ∙ neg-sub (pos y) (pos x);
      size = omega arith;
      most = le_trans
          (omega arith) (le-max_right x y);
    }

-- as a choice of two sizes
chosen-down : (x y n : ℕ) → y ≤ x → n ≡ x - y → Apart x y (record { neg = ltb x y; n = n })
chosen-down x y n h e = rw (le-ltb x y h, e) (apart-down x y h)

chosen-up : (x y n : ℕ) → x < y → n ≡ y - x → Apart x y (record { neg = ltb x y; n = n })
chosen-up x y n h e = rw (lt-ltb x y h, e) (apart-up x y h)

-- by which of the two is larger
pub apart-is : (x y : ℕ) {n : ℕ} → n ≡ (x - y) + (y - x) → Apart x y (record { neg = ltb x y; n = n })
apart-is x y {n} e = by_order (dec_lt x y)
  where
    by_order : Dec (x < y) → Apart x y (record { neg = ltb x y; n = n })
    by_order (yes h) = chosen-up x y n h (omega arith)
    by_order (no f) = chosen-down x y n (omega (arith, f)) (omega (arith, f))

-- the sign of a sum of numbers with the signs s and t, where e says that the first is the smaller
abbrev sum_sign : Bool → Bool → Bool → Bool
sum_sign s t e = not (beq s (not (beq s t) && e))

signs-differ : (s t e : Bool) (m k n : ℕ) → not (beq s t) ≡ true → with_sign e n ≡ pos m -ℤ pos k
    → with_sign (sum_sign s t e) n ≡ with_sign s m +ℤ with_sign t k
signs-differ false true false m k n d h = h
signs-differ false true true m k n d h = h
signs-differ true false false m k n d h = ap neg_ℤ h ∙ neg-sub (pos m) (pos k) ∙ +ℤ_comm (pos k) (neg_ℤ (pos m))
signs-differ true false true m k n d h =
    sign-not true n ∙ ap neg_ℤ h ∙ neg-sub (pos m) (pos k) ∙ +ℤ_comm (pos k) (neg_ℤ (pos m))
signs-differ false false e m k n d h = absurd (true≢false (sym d))
signs-differ true true e m k n d h = absurd (true≢false (sym d))

signs-agree : (s t e : Bool) (m k : ℕ) → not (beq s t) ≡ false → with_sign (sum_sign s t e) (m + k) ≡ with_sign s m +ℤ with_sign t k
signs-agree false false e m k d = refl
signs-agree true true e m k d = neg_ℤ-+ℤ (pos m) (pos k)
signs-agree false true e m k d = absurd (true≢false d)
signs-agree true false e m k d = absurd (true≢false d)

module _ (a b : Int) where
  pub sum-differ : (d : Int) (n : ℕ) → Apart a.n b.n d → not (beq a.neg b.neg) ≡ true → n ≡ d.n
      → Within (int a +ℤ int b) (a.n + b.n) (record { neg = sum_sign a.neg b.neg d.neg; n = n })
  unfolding int
  sum-differ d n h e f =
      rw f (record { is = signs-differ a.neg b.neg d.neg a.n b.n d.n e h.is; size = h.size })

  pub sum-agree : (t : Bool) (n : ℕ) → not (beq a.neg b.neg) ≡ false → n ≡ a.n + b.n
      → Within (int a +ℤ int b) (a.n + b.n) (record { neg = sum_sign a.neg b.neg t; n = n })
  unfolding int
  sum-agree t n e f = rw f (record { is = signs-agree a.neg b.neg t a.n b.n e; size = le_refl _ })

  -- ---- the order, of two numbers and of one and zero

  pub less-naturals : a.neg ≡ false → b.neg ≡ false → ltb a.n b.n ≡ lt_z (int a) (int b)
  less-naturals p q = sym (ap₂ lt_z (int-false a p) (int-false b q))

  pub less-negatives : a.neg ≡ true → b.neg ≡ true → ltb b.n a.n ≡ lt_z (int a) (int b)
  less-negatives p q = sym (ap₂ lt_z (int-true a p) (int-true b q) ∙ lt-neg (pos a.n) (pos b.n))

  pub less-down : a.neg ≡ false → b.neg ≡ true → false ≡ lt_z (int a) (int b)
  less-down p q = sym (ap₂ lt_z (int-false a p) (int-true b q) ∙ lt-pos-neg a.n b.n)

module _ (a : Int) where
  pub negative-is : (a.neg && ltb 0 a.n) ≡ lt_z (int a) (pos 0)
  unfolding int
  negative-is = by-sign a.neg refl
    where
      by-sign : (s : Bool) → a.neg ≡ s → (s && ltb 0 a.n) ≡ lt_z (int a) (pos 0)
      by-sign true p = less-negatives a (record { neg = true; n = 0 }) p refl
      by-sign false p = less-down a (record { neg = true; n = 0 }) p refl

  pub positive-is : (not a.neg && ltb 0 a.n) ≡ lt_z (pos 0) (int a)
  unfolding int
  positive-is = by-sign a.neg refl
    where
      by-sign : (s : Bool) → a.neg ≡ s → (not s && ltb 0 a.n) ≡ lt_z (pos 0) (int a)
      by-sign true p = less-down (record { neg = false; n = 0 }) a refl p
      by-sign false p = less-naturals (record { neg = false; n = 0 }) a refl p
