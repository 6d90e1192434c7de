-- What holds of the side of the hue circle, of H and of the mean hue: the signs as step 6 and step 7 say them, what the exchange
-- of the samples does to each, equal samples, and the bounds.
-- Assumes nothing.
use mathlib.Core.Path.{◌≡◌, refl, sym, ap, ap₂, ◌∙◌}
use mathlib.Core.Bool.{Bool, true, false, cond, not, ◌&&◌, false≢true, and_comm, and-false, or_comm, or-true, or-false}
use mathlib.Core.Logic.{◌↔◌, ◌⊎◌, inl, inr, ⊎_elim}
use Prim.Native.Nat.{ℕ, ◌+◌, ◌-◌, ◌/◌, ◌≤◌, ◌<◌, zero-le}
use native.Mathlib.Nat.{le_refl, add_comm, mul_comm}
use native.Mathlib.Omega.{arith}
use borrow.Author.Tests.{le-ltb, eq-eqb, eqb-true, ltb-true}
use lib.Dec.{ltb, eqb}
use lib.IntN.{ℤ, pos, neg_ℤ, nat_abs, ◌+ℤ◌, ◌*ℤ◌, +ℤ_invr, *ℤ_comm, *ℤ-zero, zero-*ℤ}
use lib.Signed.{lt_z}
use Rattle.signed.specs.Value.{with_sign}
use Rattle.signed.proofs.SignedLaws.{nat_abs-neg, neg-sub, lt-neg, lt-neg-pos, sign-size, size-zero}
use Rattle.hue.specs.Hue.{grey, quadrant_of}
use Rattle.hue.proofs.HueLaws.{grey-zero}
use Rattle.hue_difference.specs.Inner.{Primed}
use Rattle.hue_difference.specs.HueDifference.{cross_of, later_in, second_later, first_later, far_of, opposite_of, no_hue_of}
use Rattle.hue_difference.specs.HueDifference.{hue_negative, dot_of, hue_size, hue_difference_of, mean_hue_of}
use Rattle.hue_difference.proofs.Signs.{opposite_parts, hue-parts, aligned-parts, eqb_comm, ltb-other, sign-other, sign-not, either-of}
use Rattle.hue_difference.proofs.Sizes as sizes

-- ---- H by its size and its sign

-- the size of H, in 10^-7, is at most 4615105632
pub hue-size-le :
    (a1 b1 : ℤ) (c1 : ℕ) (a2 b2 : ℤ) (c2 : ℕ) →
    Primed (nat_abs a1) (nat_abs b1) c1 → Primed (nat_abs a2) (nat_abs b2) c2 →
    hue_size a1 b1 c1 a2 b2 c2 ≤ 4615105632
hue-size-le a1 b1 c1 a2 b2 c2 s t = sizes.hue-size-le a1 b1 c1 a2 b2 c2 s t

-- H is no larger than its size
pub hue_difference-le : (none negative : Bool) (size : ℕ) → nat_abs (hue_difference_of none negative size) ≤ size
unfolding hue_difference_of
hue_difference-le true negative size = zero-le
hue_difference-le false false size = le_refl size
hue_difference-le false true size = rw (nat_abs-neg (pos size)) (le_refl size)

-- H is 0 where there is none
pub hue_difference-none : (negative : Bool) (size : ℕ) → hue_difference_of true negative size ≡ pos 0
unfolding hue_difference_of
hue_difference-none negative size = refl

pub hue_difference-some : (negative : Bool) (size : ℕ) → hue_difference_of false negative size ≡ with_sign negative size
unfolding hue_difference_of
hue_difference-some negative size = refl

pub hue_difference-size : (negative : Bool) (size : ℕ) → nat_abs (hue_difference_of false negative size) ≡ size
unfolding hue_difference_of
hue_difference-size negative size = sign-size negative size

-- and below 0 exactly where `negative` says so
pub hue_difference-sign : (negative : Bool) (size : ℕ) → 0 < size → lt_z (hue_difference_of false negative size) (pos 0) ≡ negative
unfolding hue_difference_of
hue_difference-sign false size h = le-ltb size 0 zero-le
hue_difference-sign true size h = lt-neg-pos size 0 h

-- ---- the side is exact: the pair is far exactly when sample 2 is later and X < 0, or sample 1 is later and X > 0

module _ (a1 b1 a2 b2 : ℤ) where
  pub far_is :
      (far_of a1 b1 a2 b2 ≡ true) ↔
      (((second_later a1 b1 a2 b2 ≡ true) × (lt_z (cross_of a1 b1 a2 b2) (pos 0) ≡ true)) ⊎
      ((first_later a1 b1 a2 b2 ≡ true) × (lt_z (pos 0) (cross_of a1 b1 a2 b2) ≡ true)))
  unfolding far_of
  far_is = (either-of _ _ _ _, ⊎_elim (λ h. rw (h.0, h.1)) (λ h. rw (h.0, h.1, or-true)))

  -- where X is 0, so with a grey sample too, the pair is not far
  pub far-straight : cross_of a1 b1 a2 b2 ≡ pos 0 → far_of a1 b1 a2 b2 ≡ false
  unfolding far_of
  far-straight e = rw e (simp and-false)

  -- ---- the sign of H

  opposed : opposite_of a1 b1 a2 b2 ≡ true → (eqb (nat_abs (cross_of a1 b1 a2 b2)) 0 ≡ true) × (eqb (quadrant_of a1 b1) (quadrant_of a2 b2) ≡ false)
  unfolding opposite_of
  opposed e = opposite_parts (grey a1 b1) (grey a2 b2) _ _ e

  -- exactly opposite hues have X = 0, so they are not far
  pub opposite-cross : opposite_of a1 b1 a2 b2 ≡ true → cross_of a1 b1 a2 b2 ≡ pos 0
  opposite-cross e = size-zero (cross_of a1 b1 a2 b2) (opposed e).0

  -- of exactly opposite hues one is later, and not the other
  pub opposite-later : opposite_of a1 b1 a2 b2 ≡ true → first_later a1 b1 a2 b2 ≡ not (second_later a1 b1 a2 b2)
  unfolding first_later second_later later_in
  opposite-later e =
      let q = (opposed e).1 in
      rw (eqb_comm (quadrant_of a2 b2) (quadrant_of a1 b1), q) (simp or-false (ltb-other (quadrant_of a1 b1) (quadrant_of a2 b2) q))

  -- where X is not 0, and so neither sample is grey (`cross-grey`), H has the sign of X
  pub hue-sign : eqb (nat_abs (cross_of a1 b1 a2 b2)) 0 ≡ false → hue_negative a1 b1 a2 b2 ≡ lt_z (cross_of a1 b1 a2 b2) (pos 0)
  unfolding hue_negative opposite_of
  hue-sign e = rw (e, and-false)

  -- where the hues are exactly opposite, H is plus when sample 2 is later, else minus
  pub opposite-sign : opposite_of a1 b1 a2 b2 ≡ true → hue_negative a1 b1 a2 b2 ≡ not (second_later a1 b1 a2 b2)
  unfolding hue_negative
  opposite-sign e = rw e

  -- where step 7 does not make H 0: neither sample is grey, and X is not 0 unless the hues are opposite
  hued : no_hue_of a1 b1 a2 b2 ≡ false → (grey a1 b1 ≡ false) × (grey a2 b2 ≡ false) ×
      (opposite_of a1 b1 a2 b2 ≡ false → eqb (nat_abs (cross_of a1 b1 a2 b2)) 0 ≡ false)
  unfolding no_hue_of
  hued e = hue-parts (grey a1 b1) (grey a2 b2) _ (opposite_of a1 b1 a2 b2) e

  pub hue-coloured : no_hue_of a1 b1 a2 b2 ≡ false → (grey a1 b1 ≡ false) × (grey a2 b2 ≡ false)
  hue-coloured e = ((hued e).0, (hued e).1)

  -- where step 7 makes H 0 and neither sample is grey, the hues are the same: X = 0, and the quadrant is one
  pub hue-same : no_hue_of a1 b1 a2 b2 ≡ true → grey a1 b1 ≡ false → grey a2 b2 ≡ false →
      (cross_of a1 b1 a2 b2 ≡ pos 0) × (quadrant_of a1 b1 ≡ quadrant_of a2 b2)
  unfolding no_hue_of opposite_of
  hue-same e u v =
      let both = aligned-parts (grey a1 b1) (grey a2 b2) _ _ e u v in
      (size-zero (cross_of a1 b1 a2 b2) both.0, eqb-true (quadrant_of a1 b1) (quadrant_of a2 b2) both.1)

  -- ---- the exchange of the samples: X, the order and the sign of H turn round, and all else stays

  -- X changes its sign
  pub cross-swap : cross_of a2 b2 a1 b1 ≡ neg_ℤ (cross_of a1 b1 a2 b2)
  unfolding cross_of
  cross-swap = sym (neg-sub (a1 *ℤ b2) (a2 *ℤ b1))

  cross-size-swap : nat_abs (cross_of a2 b2 a1 b1) ≡ nat_abs (cross_of a1 b1 a2 b2)
  cross-size-swap = ap nat_abs cross-swap ∙ nat_abs-neg (cross_of a1 b1 a2 b2)

  above-swap : lt_z (pos 0) (cross_of a2 b2 a1 b1) ≡ lt_z (cross_of a1 b1 a2 b2) (pos 0)
  above-swap = ap (lt_z (pos 0)) cross-swap ∙ lt-neg (pos 0) (cross_of a1 b1 a2 b2)

  below-swap : lt_z (cross_of a2 b2 a1 b1) (pos 0) ≡ lt_z (pos 0) (cross_of a1 b1 a2 b2)
  below-swap = ap (λ x. lt_z x (pos 0)) cross-swap ∙ lt-neg (cross_of a1 b1 a2 b2) (pos 0)

  -- d stays
  pub dot-swap : dot_of a2 b2 a1 b1 ≡ dot_of a1 b1 a2 b2
  unfolding dot_of
  dot-swap = ap₂ ◌+ℤ◌ (*ℤ_comm a2 a1) (*ℤ_comm b2 b1)

  -- what was the first sample is now the second
  pub later-swap : second_later a2 b2 a1 b1 ≡ first_later a1 b1 a2 b2
  unfolding second_later first_later
  later-swap = ap (later_in (quadrant_of a2 b2) (quadrant_of a1 b1)) above-swap

  pub earlier-swap : first_later a2 b2 a1 b1 ≡ second_later a1 b1 a2 b2
  unfolding second_later first_later
  earlier-swap = ap (later_in (quadrant_of a1 b1) (quadrant_of a2 b2)) below-swap

  -- far, opposite and none stay
  pub far-swap : far_of a2 b2 a1 b1 ≡ far_of a1 b1 a2 b2
  unfolding far_of
  far-swap =
      rw (later-swap, earlier-swap, above-swap, below-swap)
      (or_comm (first_later a1 b1 a2 b2 && lt_z (pos 0) (cross_of a1 b1 a2 b2)) (second_later a1 b1 a2 b2 && lt_z (cross_of a1 b1 a2 b2) (pos 0)))

  pub opposite-swap : opposite_of a2 b2 a1 b1 ≡ opposite_of a1 b1 a2 b2
  unfolding opposite_of
  opposite-swap =
      rw (cross-size-swap, eqb_comm (quadrant_of a2 b2) (quadrant_of a1 b1), and_comm (not (grey a2 b2)) (not (grey a1 b1)))

  pub no-hue-swap : no_hue_of a2 b2 a1 b1 ≡ no_hue_of a1 b1 a2 b2
  unfolding no_hue_of
  no-hue-swap = rw (cross-size-swap, opposite-swap, or_comm (grey a2 b2) (grey a1 b1))

  by-opposite :
      (t : Bool) → opposite_of a1 b1 a2 b2 ≡ t → no_hue_of a1 b1 a2 b2 ≡ false →
      cond t (not (second_later a2 b2 a1 b1)) (lt_z (cross_of a2 b2 a1 b1) (pos 0)) ≡
      not (cond t (not (second_later a1 b1 a2 b2)) (lt_z (cross_of a1 b1 a2 b2) (pos 0)))
  by-opposite true e h = ap not (later-swap ∙ opposite-later e)
  by-opposite false e h = below-swap ∙ sign-other (cross_of a1 b1 a2 b2) ((hued h).2 e)

  -- the sign of H turns round, wherever step 7 does not make H 0; also of exactly opposite hues
  pub hue_negative-swap : no_hue_of a1 b1 a2 b2 ≡ false → hue_negative a2 b2 a1 b1 ≡ not (hue_negative a1 b1 a2 b2)
  unfolding hue_negative
  hue_negative-swap h = rw opposite-swap (by-opposite (opposite_of a1 b1 a2 b2) refl h)

  -- the size of H stays
  pub hue_size-swap : (c1 c2 : ℕ) → hue_size a2 b2 c2 a1 b1 c1 ≡ hue_size a1 b1 c1 a2 b2 c2
  unfolding hue_size
  hue_size-swap c1 c2 = rw (dot-swap, cross-size-swap, mul_comm c2 c1)

  by-none :
      (t : Bool) (n : ℕ) → no_hue_of a1 b1 a2 b2 ≡ t →
      hue_difference_of t (hue_negative a2 b2 a1 b1) n ≡ neg_ℤ (hue_difference_of t (hue_negative a1 b1 a2 b2) n)
  unfolding hue_difference_of
  by-none true n e = refl
  by-none false n e = rw (hue_negative-swap e) (sign-not (hue_negative a1 b1 a2 b2) n)

cross-first-grey : (a1 b1 a2 b2 : ℤ) → grey a1 b1 ≡ true → cross_of a1 b1 a2 b2 ≡ pos 0
unfolding cross_of
cross-first-grey a1 b1 a2 b2 e = let z = grey-zero a1 b1 e in rw (z.0, z.1, zero-*ℤ b2, *ℤ-zero a2)

-- a grey sample has X = 0
pub cross-grey : (a1 b1 a2 b2 : ℤ) → (grey a1 b1 ≡ true) ⊎ (grey a2 b2 ≡ true) → cross_of a1 b1 a2 b2 ≡ pos 0
cross-grey a1 b1 a2 b2 (inl e) = cross-first-grey a1 b1 a2 b2 e
cross-grey a1 b1 a2 b2 (inr e) = cross-swap a2 b2 a1 b1 ∙ ap neg_ℤ (cross-first-grey a2 b2 a1 b1 e)

-- H from sample 2 to sample 1 is minus H from sample 1 to sample 2; a, b are the grid values, a', b', c' the primed ones
pub hue-difference-swap :
    (a1 b1 a2 b2 a1' b1' a2' b2' : ℤ) (c1' c2' : ℕ) →
    hue_difference_of (no_hue_of a2 b2 a1 b1) (hue_negative a2 b2 a1 b1) (hue_size a2' b2' c2' a1' b1' c1') ≡
    neg_ℤ (hue_difference_of (no_hue_of a1 b1 a2 b2) (hue_negative a1 b1 a2 b2) (hue_size a1' b1' c1' a2' b2' c2'))
hue-difference-swap a1 b1 a2 b2 a1' b1' a2' b2' c1' c2' =
    rw (no-hue-swap a1 b1 a2 b2, hue_size-swap a1' b1' a2' b2' c1' c2')
    (by-none a1 b1 a2 b2 (no_hue_of a1 b1 a2 b2) (hue_size a1' b1' c1' a2' b2' c2') refl)

-- the mean hue stays
pub mean-hue-swap : (g far : Bool) (h1 h2 : ℕ) → mean_hue_of g far h2 h1 ≡ mean_hue_of g far h1 h2
unfolding mean_hue_of
mean-hue-swap g far h1 h2 = rw (add_comm h2 h1)

-- ---- equal samples: H is 0, and they are not far

module _ (a b : ℤ) where
  cross-self : cross_of a b a b ≡ pos 0
  unfolding cross_of
  cross-self = +ℤ_invr (a *ℤ b)

  opposite-self : opposite_of a b a b ≡ false
  unfolding opposite_of
  opposite-self = rw (eq-eqb (quadrant_of a b) (quadrant_of a b) refl, and-false)

  pub no-hue-self : no_hue_of a b a b ≡ true
  unfolding no_hue_of
  no-hue-self = rw (cross-self, opposite-self, or-true)

  pub hue_difference-self : (negative : Bool) (size : ℕ) → hue_difference_of (no_hue_of a b a b) negative size ≡ pos 0
  unfolding hue_difference_of
  hue_difference-self negative size = rw no-hue-self

  pub far-self : far_of a b a b ≡ false
  far-self = far-straight a b a b cross-self

-- ---- the mean hue, in 10^-6 degree

-- below 360 degrees, where the hue of a grey sample is 0
pub mean-hue-lt :
    (g far : Bool) (h1 h2 : ℕ) → h1 < 360000000 → h2 < 360000000 →
    (g ≡ true → (h1 ≡ 0) ⊎ (h2 ≡ 0)) →
    mean_hue_of g far h1 h2 < 360000000
unfolding mean_hue_of
mean-hue-lt true far h1 h2 p q z = ⊎_elim (λ e. omega arith) (λ e. omega arith) (z refl)
mean-hue-lt false false h1 h2 p q z = omega arith
mean-hue-lt false true h1 h2 p q z = by-test (ltb (h1 + h2) 360000000) refl
  where
    by-test : (t : Bool) → ltb (h1 + h2) 360000000 ≡ t → cond t ((h1 + h2 + 360000000) / 2) ((h1 + h2 - 360000000) / 2) < 360000000
    by-test true e = omega (arith, ltb-true (h1 + h2) 360000000 e)
    by-test false e = omega arith

-- and below 720 degrees whatever a grey sample's hue is
pub mean-hue-lt-twice : (g far : Bool) (h1 h2 : ℕ) → h1 < 360000000 → h2 < 360000000 → mean_hue_of g far h1 h2 < 720000000
unfolding mean_hue_of
mean-hue-lt-twice true far h1 h2 p q = omega arith
mean-hue-lt-twice false far h1 h2 p q =
    let h : mean_hue_of false far h1 h2 < 360000000 = mean-hue-lt false far h1 h2 p q (λ e. absurd (false≢true e)) in omega arith
