-- A colour in 32 bits, as the machine reads it, is refused as its numbers of any size are. Assumes nothing.
use mathlib.Core.Path.{◌≡◌, sym, subst}
use Prim.Native.Nat.{◌<◌}
use lib.IntN.{ℤ}
use lib.Signed.{mag}
use mir.Syntax.{w32}
use mir.Val.{of_z, to_z}
use mir.ValLaws.{to_z-of_z}
use Rattle.sample.specs.Sample.{colour_refusal}
use Rattle.sample.specs.Inner.{colour}
use Rattle.sample.specs.InnerNarrowing.{Narrowed}

pub narrowed-read : {x y : ℤ} → mag y < 2147483648 → Narrowed x y → Narrowed x (to_z w32 (of_z w32 y))
narrowed-read {x} {y} h = subst (Narrowed x) (sym (to_z-of_z w32 y (record { sfits = h })))

-- a colour of three such numbers
module _ {l a b p q r : ℤ} (hl : Narrowed l p) (ha : Narrowed a q) (hb : Narrowed b r) where
  pub narrowed-refusal : colour_refusal (colour p q r) ≡ colour_refusal (colour l a b)
  unfolding colour_refusal
  narrowed-refusal = rw (hl.lightness, ha.opponent, hb.opponent)
