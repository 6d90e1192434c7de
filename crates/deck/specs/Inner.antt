-- The bounds that inner functions ask for, the scratch list, and the one test of limits and order.
use Rattle.std.specs.Prelude.{◌≡◌, Bool, ◌&&◌, List, ℕ, zero, suc, ◌≤◌, eqb, ℤ, pos, length, take}
use Rattle.std.specs.Int.Signed.{le_z}
use Rattle.sample.specs.Sample.{colour_refusal}
use Rattle.deck.specs.Deck.{Deck, most_swatches}

-- the columns are of one length, of at most 4,096
pub record Sizes (l a b : List ℤ) : Type 0 where
  pub a_is : length a ≡ length l
  pub b_is : length b ≡ length l
  pub most : length l ≤ most_swatches

-- ---- the scratch list

-- its first n entries are the places of xs
pub record ScratchIs (xs : List ℕ) (scratch : List ℕ) (n : ℕ) : Type 0 where
  pub size : length scratch ≡ most_swatches
  pub most : n ≤ most_swatches
  pub is : take n scratch ≡ xs

-- ---- limits and order in one test

-- the lightness before a place, and 0, the least, before the first
abbrev pub lightness_before : Deck → ℕ → ℤ
lightness_before d zero = pos 0
lightness_before d (suc k) = (d.colour k).l

-- the swatch is within the limits, and no darker than the one before it
unfoldable pub swatch_in_order : Deck → ℕ → Bool
swatch_in_order d k = le_z (lightness_before d k) (d.colour k).l && eqb (colour_refusal (d.colour k)) 0
