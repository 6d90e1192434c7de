-- Samples and colours in whole numbers of 1/10,000 (01's grid), and the limits in these numbers. Assumes nothing.
use Rattle.std.specs.Prelude.{ℕ, Bool, ◌||◌, cond, ltb, ℤ, pos, nat_abs}
use Rattle.std.specs.Int.Signed.{lt_z}

-- a sample of the working: L, which is never negative, a and b
pub record Sample : Type 0 where
  pub l : ℕ
  pub a : ℤ
  pub b : ℤ

-- a colour as a deck or a text gives it: any whole numbers
pub record Colour : Type 0 where
  pub l : ℤ
  pub a : ℤ
  pub b : ℤ

-- L below 0 or above 100
abbrev pub lightness_out : ℤ → Bool
lightness_out l = lt_z l (pos 0) || ltb 1000000 (nat_abs l)

-- a or b below -128 or above 128
abbrev pub opponent_out : ℤ → Bool
opponent_out x = ltb 1280000 (nat_abs x)

-- refusal 2 or 3 of a colour; 0 is no refusal
unfoldable pub colour_refusal : Colour → ℕ
colour_refusal c = cond (lightness_out c.l) 2 (cond (opponent_out c.a || opponent_out c.b) 3 0)

-- a colour as a sample; the lightness of one that is not refused is its own size
unfoldable pub colour_sample : Colour → Sample
colour_sample c = record { l = nat_abs c.l; a = c.a; b = c.b }
