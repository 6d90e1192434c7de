-- Which way round the hue circle a pair lies, and the sign of H, as steps 6 and 7 say them.
-- Assumes nothing.
use mathlib.Core.Path.{◌≡◌, refl, sym, ◌∙◌}
use mathlib.Core.Bool.{Bool, true, false, false≢true}
use mathlib.Core.Logic.{◌↔◌, ◌⊎◌}
use Prim.Native.Nat.{ℕ, zero, suc, ◌<◌, zero-le}
use native.Mathlib.Omega.{arith}
use borrow.Author.Tests.{le-ltb}
use lib.IntN.{pos}
use lib.Signed.{lt_z}
use Rattle.sample.specs.Sample.{Sample}
use Rattle.hue_difference.specs.HueDifference.{cross_of, second_later, first_later, no_hue_of, hue_negative, hue_size, hue_difference_of}
use Rattle.hue_difference.proofs.HueDifferenceLaws.{far_is}
use Rattle.difference.specs.Pair.{Point, pair_far, pair_hue_difference}

-- far is decided exactly, from the samples' own a and b and from no rounded hue: sample 2 is later and X < 0, or sample 1 is later and X > 0
pub far-exact : (s t : Sample)
    → (pair_far s t ≡ true)
    ↔ (((second_later s.a s.b t.a t.b ≡ true) × (lt_z (cross_of s.a s.b t.a t.b) (pos 0) ≡ true))
    ⊎ ((first_later s.a s.b t.a t.b ≡ true) × (lt_z (pos 0) (cross_of s.a s.b t.a t.b) ≡ true)))
unfolding pair_far
far-exact s t = far_is s.a s.b t.a t.b

below : (none negative : Bool) (n : ℕ) → lt_z (hue_difference_of none negative n) (pos 0) ≡ true → (none ≡ false) × (negative ≡ true) × (0 < n)
unfolding hue_difference_of
below true negative n e = absurd (false≢true e)
below false false n e = absurd (false≢true (sym (le-ltb n 0 zero-le) ∙ e))
below false true zero e = absurd (false≢true e)
below false true (suc n) e = (refl, refl, omega arith)

negative-below : (none negative : Bool) (n : ℕ) → (none ≡ false) × (negative ≡ true) × (0 < n) → lt_z (hue_difference_of none negative n) (pos 0) ≡ true
unfolding hue_difference_of
negative-below none negative n h = rw (h.0, h.1) (some n h.2)
  where
    some : (n : ℕ) → 0 < n → lt_z (hue_difference_of false true n) (pos 0) ≡ true
    some zero k = absurd (omega arith)
    some (suc n) k = refl

-- H is negative exactly when step 7 gives it a hue, the minus sign, and a size that is not 0: never |H| for H
pub hue-part-sign : (s t : Sample) (p q : Point)
    → (lt_z (pair_hue_difference s t p q) (pos 0) ≡ true)
    ↔ ((no_hue_of s.a s.b t.a t.b ≡ false) × (hue_negative s.a s.b t.a t.b ≡ true) ×
    (0 < hue_size p.a p.b p.c q.a q.b q.c))
unfolding pair_hue_difference
hue-part-sign s t p q = (below _ _ _, negative-below _ _ _)
