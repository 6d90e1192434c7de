-- The three ways through `halves`: zero, a negative number and a positive one, each at most 128 in size. Assumes nothing.
use Rattle.std.proofs.Common.{◌≡◌, ℕ, zero, suc, ◌+◌, ◌*◌, ◌<◌, ◌≤◌, Bool, true, false, ◌&&◌, T, eqb, pos, sym, refl, ap, ◌∙◌, true≢false, arith, ltb-false, ltb-true, eq-eqb, eqb-true}
use mathlib.Core.Bool.{false≢true}
use lib.Ieee.{Float, nan, inf, fin, binary32, binary64, up, down, lt, eq, neg, mul, fits}
use lib.Ieee.Exact.{HasValue}
use lib.Ieee.Positive.{num, den}
use Rattle.fixed_point.specs.Inner.{AtMost}
use Rattle.fixed_point.proofs.Exactness.{exact-product}

abbrev pub zero_f : Float
zero_f = fin false 0 (pos 0)

and_first : (p q : Bool) → (p && q) ≡ true → p ≡ true
and_first true q h = refl
and_first false q h = h

no_size : (a u d : ℕ) → a * 1 ≡ 0 * d → 0 * 1 * d ≡ a * 20000 * 1
no_size a u d h = omega arith

pub zero-size : (x : Float) → eq x zero_f ≡ true → HasValue zero_f false (num x * 20000) (den x)
unfolding eq
zero-size nan h = absurd (false≢true h)
zero-size (inf s) h = absurd (false≢true h)
zero-size (fin s m e) h = (
  refl,
  no_size (m * up e) (up e) (down e)
      (eqb-true (m * up e * 1) (0 * down e) (and_first (eqb (m * up e * 1) (0 * down e)) _ h)),
)

below-zero : (a d : ℕ) → a * 1 < 0 * d → ⊥
below-zero a d h = omega arith

above-none : (u d : ℕ) → 0 < 0 * u * 1 + 0 * d → ⊥
above-none u d h = omega arith

pub negative-size : (x : Float) → T (fits binary32 x) → AtMost 128 x → lt x zero_f ≡ true → HasValue
    (mul binary64 (neg x) (fin false 625 (pos 5))) false (num x * 20000) (den x)
unfolding lt neg
negative-size nan t h l = absurd (false≢true l)
negative-size (inf s) t h l = absurd h.is_finite
negative-size (fin false m e) t h l = absurd (below-zero (m * up e) (down e) (ltb-true (m * up e * 1) (0 * down e) l))
negative-size (fin true zero e) t h l = absurd (above-none (up e) (down e) (ltb-true 0 (0 * up e * 1 + 0 * down e) l))
negative-size (fin true (suc m) e) t h l = exact-product true m e t h.size

-- a number with a minus that is not below zero is zero
both_zero : (a d : ℕ) → a * 1 + 0 * d ≤ 0 → (a * 1 ≡ 0 * d) × (a * 1 ≡ 0)
both_zero a d h = omega arith

same-zero : (u d : ℕ) → 0 * u * 1 ≡ 0 * d
same-zero u d = omega arith

level-fails : (p q : Bool) → p ≡ true → q ≡ true → (p && q) ≡ false → ⊥
level-fails p q h k n = true≢false (sym (ap (λ (z : Bool). z && q) h ∙ k) ∙ n)

pub positive-size : (x : Float) → T (fits binary32 x) → AtMost 128 x → eq x zero_f ≡ false → lt x zero_f ≡ false → HasValue
    (mul binary64 x (fin false 625 (pos 5))) false (num x * 20000) (den x)
unfolding lt eq
positive-size nan t h n l = absurd h.is_finite
positive-size (inf s) t h n l = absurd h.is_finite
positive-size (fin false zero e) t h n l = absurd
    (level-fails (eqb (0 * up e * 1) (0 * down e)) true (eq-eqb (0 * up e * 1) (0 * down e) (same-zero (up e) (down e))) refl n)
positive-size (fin false (suc m) e) t h n l = exact-product false m e t h.size
positive-size (fin true m e) t h n l =
    let z = both_zero (m * up e) (down e) (ltb-false 0 (m * up e * 1 + 0 * down e) l) in
    absurd (level-fails (eqb (m * up e * 1) (0 * down e)) (eqb (m * up e * 1) 0) (eq-eqb (m * up e * 1) (0 * down e) z.0)
    (eq-eqb (m * up e * 1) 0 z.1) n)
