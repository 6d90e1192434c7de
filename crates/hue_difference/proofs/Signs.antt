-- Tests and signs: what follows from one for another.
-- Assumes nothing.
use mathlib.Core.Path.{◌≡◌, refl, sym, ap, ◌∙◌}
use mathlib.Core.Bool.{Bool, true, false, not, ◌&&◌, ◌||◌, true≢false, false≢true}
use mathlib.Core.Logic.{◌⊎◌, inl, inr}
use Prim.Native.Nat.{ℕ, zero, suc, zero-le}
use native.Mathlib.Omega.{arith}
use borrow.Author.Tests.{lt-ltb, le-ltb, eq-eqb, ne_eqb, ltb-true, ltb-false, eqb-true, eqb-false, not-true}
use lib.Dec.{ltb, eqb}
use lib.IntN.{ℤ, pos, negsuc, neg_ℤ, nat_abs, neg_ℤ-neg_ℤ}
use lib.Signed.{lt_z}
use Rattle.signed.specs.Value.{with_sign}

and_right : (s t : Bool) → s && t ≡ true → t ≡ true
and_right true t e = e
and_right false t e = absurd (false≢true e)

and_left : (s t : Bool) → s && t ≡ true → s ≡ true
and_left true t e = refl
and_left false t e = e

-- what `opposite_of` says of X and of the quadrants
pub opposite_parts : (g1 g2 z q : Bool) → (not g1 && not g2 && z && not q) ≡ true → (z ≡ true) × (q ≡ false)
opposite_parts true g2 z q e = absurd (false≢true e)
opposite_parts false true z q e = absurd (false≢true e)
opposite_parts false false z q e = (and_left z (not q) e, not-true q (and_right z (not q) e))

-- what is left where `no_hue_of` fails
pub hue-parts : (g1 g2 z o : Bool) → (g1 || g2 || (z && not o)) ≡ false → (g1 ≡ false) × (g2 ≡ false) × (o ≡ false → z ≡ false)
hue-parts true g2 z o e = absurd (true≢false e)
hue-parts false true z o e = absurd (true≢false e)
hue-parts false false false o e = (refl, refl, λ h. refl)
hue-parts false false true o e = (refl, refl, λ h. absurd (true≢false (sym (ap not h) ∙ e)))

-- what is left of `no_hue_of` where neither sample is grey
pub aligned-parts : (g1 g2 z q : Bool) → (g1 || g2 || (z && not (not g1 && not g2 && z && not q))) ≡ true → g1 ≡ false → g2 ≡ false
    → (z ≡ true) × (q ≡ true)
aligned-parts true g2 z q e u v = absurd (true≢false u)
aligned-parts false true z q e u v = absurd (true≢false v)
aligned-parts false false true true e u v = (refl, refl)
aligned-parts false false true false e u v = absurd (false≢true e)
aligned-parts false false false q e u v = absurd (false≢true e)

pub eqb_comm : (m n : ℕ) → eqb m n ≡ eqb n m
eqb_comm m n = by-test (eqb m n) refl
  where
    by-test : (t : Bool) → eqb m n ≡ t → eqb m n ≡ eqb n m
    by-test true e = e ∙ sym (eq-eqb n m (sym (eqb-true m n e)))
    by-test false e = e ∙ sym (ne_eqb n m (λ h. eqb-false m n e (sym h)))

-- of two different numbers one is less
pub ltb-other : (m n : ℕ) → eqb m n ≡ false → ltb n m ≡ not (ltb m n)
ltb-other m n d = by-test (ltb m n) refl
  where
    by-test : (t : Bool) → ltb m n ≡ t → ltb n m ≡ not (ltb m n)
    by-test true e = le-ltb n m (omega (arith, ltb-true m n e)) ∙ sym (ap not e)
    by-test false e = lt-ltb n m (omega (arith, ltb-false m n e, eqb-false m n d)) ∙ sym (ap not e)

-- a number that is not 0 has one of the two signs
pub sign-other : (x : ℤ) → eqb (nat_abs x) 0 ≡ false → lt_z (pos 0) x ≡ not (lt_z x (pos 0))
sign-other (pos zero) e = absurd (true≢false e)
sign-other (pos (suc n)) e = rw (lt-ltb 0 (suc n) (omega arith), le-ltb (suc n) 0 zero-le)
sign-other (negsuc n) e = refl

pub sign-not : (s : Bool) (n : ℕ) → with_sign (not s) n ≡ neg_ℤ (with_sign s n)
sign-not false n = refl
sign-not true n = sym (neg_ℤ-neg_ℤ (pos n))

-- one of two pairs of tests
pub either-of : (s t u v : Bool) → ((s && t) || (u && v)) ≡ true → ((s ≡ true) × (t ≡ true)) ⊎ ((u ≡ true) × (v ≡ true))
either-of true true u v e = inl (refl, refl)
either-of true false u v e = inr (and_left u v e, and_right u v e)
either-of false t u v e = inr (and_left u v e, and_right u v e)
