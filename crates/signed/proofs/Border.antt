-- The machine's signed integers: what it reads back of a number, what it makes of an `Int` and an `Int` of it, at any width.
-- Assumes nothing.
use mathlib.Core.Path.{◌≡◌, refl, sym, ap, subst, ◌∙◌}
use mathlib.Core.Bool.{Bool, true, false}
use Prim.Native.Nat.{ℕ, zero, suc, ◌^◌, ◌≤◌, ◌<◌}
use native.Mathlib.Nat.{le_refl, le-suc, lt_trans, lt_of_le_of_lt}
use lib.Dec.{lit<, leb-suc-zero}
use lib.IntN.{ℤ, pos, negsuc, neg_ℤ, nat_abs, ◌-ℤ◌, +ℤ_idl}
use lib.Signed.{mag, lt_z}
use mir.Syntax.{Width, w32, w64}
use mir.Val.{SFits, hbits, of_z, to_z}
use mir.ValLaws.{to_z_pos, to_z-of_z}
use Rattle.signed.specs.declared.Int.{Int}
use Rattle.signed.specs.Value.{with_sign}
use Rattle.signed.specs.Inner.{int, Exactly}
use Rattle.signed.proofs.SignedLaws.{int-true, int-false}

-- ---- from one width to another

pub wider : {z : ℤ} → SFits w32 z → SFits w64 z
wider f = record { sfits = lt_trans f.sfits (lit< tt) }

module _ (v w : Width) (z : ℤ) (f : SFits w z) (g : SFits v z) where
  pub read_fits : SFits v (to_z w (of_z w z))
  read_fits = subst (SFits v) (sym (to_z-of_z w z f)) g

  pub read_twice : to_z v (of_z v (to_z w (of_z w z))) ≡ z
  read_twice = ap (λ x. to_z v (of_z v x)) (to_z-of_z w z f) ∙ to_z-of_z v z g

-- ---- into the machine

module _ (w : Width) where
  sign-mag : (s : Bool) (n : ℕ) → mag (with_sign s n) ≤ n
  sign-mag false n = le_refl n
  sign-mag true zero = le_refl zero
  sign-mag true (suc n) = le-suc n

  pub int-fits : (a : Int) → a.n < 2 ^ hbits w → SFits w (int a)
  unfolding int
  int-fits a h = record { sfits = lt_of_le_of_lt (sign-mag a.neg a.n) h }

  minus : (a : Int) → a.n < 2 ^ hbits w → a.neg ≡ true → pos 0 -ℤ to_z w a.n ≡ int a
  minus a h p = ap (λ x. pos 0 -ℤ x) (to_z_pos w a.n h) ∙ +ℤ_idl (neg_ℤ (pos a.n)) ∙ sym (int-true a p)

  pub minus-fits : (a : Int) → a.n < 2 ^ hbits w → a.neg ≡ true → SFits w (pos 0 -ℤ to_z w a.n)
  minus-fits a h p = subst (SFits w) (sym (minus a h p)) (int-fits a h)

  pub minus_is : (a : Int) → a.n < 2 ^ hbits w → a.neg ≡ true → to_z w (of_z w (pos 0 -ℤ to_z w a.n)) ≡ int a
  minus_is a h p = to_z-of_z w _ (minus-fits a h p) ∙ minus a h p

  pub plus-is : (a : Int) → a.n < 2 ^ hbits w → a.neg ≡ false → to_z w a.n ≡ int a
  plus-is a h p = to_z_pos w a.n h ∙ sym (int-false a p)

-- ---- an `Int` of x, by its sign

pub of_int : (x : ℤ) → Exactly x (nat_abs x) (record { neg = lt_z x (pos 0); n = nat_abs x })
unfolding int
of_int (pos n) = record { is = rw leb-suc-zero; size = refl }
of_int (negsuc n) = record { is = refl; size = refl }

-- of what was read back
pub of-read : {x y : ℤ} {r : Int} → y ≡ x → Exactly y (nat_abs y) r → Exactly x (nat_abs x) r
of-read {r = r} e h = subst (λ z. Exactly z (nat_abs z) r) e h

-- what a caller reads of a signed result that is a: a itself
pub read_back : (w : Width) {r : ℤ} (a : Int) → r ≡ int a → a.n < 2 ^ hbits w → to_z w (of_z w r) ≡ int a
read_back w a e h = ap (λ (z : ℤ). to_z w (of_z w z)) e ∙ to_z-of_z w (int a) (int-fits w a h)
