-- What inner contracts say besides the definitions: of the sizes of a sample's values, and of a `Side`.
-- Assumes nothing.
use Rattle.std.specs.Prelude.{◌≡◌, Bool, cond, ◌||◌, ℕ, ◌≤◌, ℤ, pos, neg_ℤ}
use Rattle.std.specs.declared.cmp.Ordering.{Ordering}
use Rattle.std.specs.declared.cmp.Ordering.TheVariants.{Less, Equal, Greater}
use Rattle.hue.specs.Hue.{grey}
use Rattle.hue_difference.specs.declared.Side.{Side}
use Rattle.hue_difference.specs.HueDifference.{far_of, no_hue_of, hue_negative}

-- the sizes of a', b' and C' in 10^-7, for every sample within the limits; those of 1000 a, 1000 b and C are within them too
pub record Primed (a b c : ℕ) : Type 0 where
  pub a_le : a ≤ 1920000000
  pub b_le : b ≤ 1280000000
  pub c_le : c ≤ 2307552816
  pub a_chroma : a ≤ c
  pub b_chroma : b ≤ c

-- how the hue difference compares with 0, where it is 0 if `none` is true, and else below 0 if `negative` is
abbrev pub sign_of : Bool → Bool → Ordering
sign_of none negative = cond none Equal (cond negative Less Greater)

-- a size with the sign of a number that compares so with 0
abbrev pub with_order : Ordering → ℕ → ℤ
with_order Less n = neg_ℤ (pos n)
with_order Equal n = pos 0
with_order Greater n = pos n

-- s is what steps 6 and 7 say of the two samples
pub record SideIs (a1 b1 a2 b2 : ℤ) (s : Side) : Type 0 where
  pub grey_is : s.grey ≡ (grey a1 b1 || grey a2 b2)
  pub far_is : s.far ≡ far_of a1 b1 a2 b2
  pub sign_is : s.sign ≡ sign_of (no_hue_of a1 b1 a2 b2) (hue_negative a1 b1 a2 b2)
