-- `hue_difference::hue_size` meets its contract: both branches of step 7 are the root of C1'C2' + |d|, halved, which fits 64 bits.
-- Assumes nothing.
use mathlib.Core.Path.{◌≡◌, sym, ◌∙◌}
use mathlib.Core.Bool.{true, false}
use Prim.Native.Nat.{ℕ, ◌+◌, ◌*◌, ◌/◌}
use lib.IntN.{ℤ, pos}
use lib.Signed.{lt_z}
use Rattle.isqrt.specs.Root.{root_of}
use Rattle.signed.specs.declared.Int.{Int}
use Rattle.signed.specs.Inner.{int}
use Rattle.signed.proofs.SignedLaws.{int-size}
use Rattle.hue_difference.specs.HueDifference.{cross_of, dot_of, hue_size}
use Rattle.hue_difference.proofs.Sizes.{plus-size, minus-size}
use Rattle.hue_difference.proofs.hue_size.Goals as goal

module _ (a1 b1 : ℤ) (c1 : ℕ) (a2 b2 : ℤ) (c2 : ℕ) (d : Int) (m : ℕ) (e : int d ≡ dot_of a1 b1 a2 b2) (r : m ≡ root_of ((c1 * c2 + d.n) / 2)) where
  size_below : lt_z (int d) (pos 0) ≡ true → 2 * m ≡ hue_size a1 b1 c1 a2 b2 c2
  unfolding hue_size
  size_below h = rw (r, ← e, h, minus-size (c1 * c2) (int d) h, int-size d)

  size_above : (x : Int) → int x ≡ cross_of a1 b1 a2 b2 → lt_z (int d) (pos 0) ≡ false → x.n / m ≡ hue_size a1 b1 c1 a2 b2 c2
  unfolding hue_size
  size_above x f h = rw (r, ← e, ← f, h, plus-size (c1 * c2) (int d) h, int-size d, int-size x)

pub returns-then-is_negative : goal.returns-then-is_negative
returns-then-is_negative c =
    size_below _ _ _ _ _ _ _ _ c.dot-d.ensures.is c.isqrt-root.ensures.is
    (sym c.is_negative.ensures ∙ c.if-is_negative.true)

pub returns : goal.returns
returns c =
    size_above _ _ _ _ _ _ _ _ c.dot-d.ensures.is c.isqrt-root.ensures.is _ c.cross-x.ensures.is
    (sym c.is_negative.ensures ∙ c.if-is_negative.false)
