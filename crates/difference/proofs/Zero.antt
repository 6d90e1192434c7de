-- Equal samples: CIEDE2000, CIE94 and CIE76 of a sample and itself are 0, for all samples and all weights, and so is each signed part.
-- Assumes nothing.
use mathlib.Core.Path.{◌≡◌, ap, ◌∙◌}
use Prim.Native.Nat.{ℕ, ◌+◌, ◌*◌}
use native.Mathlib.Nat.{le_refl, zero-mul, zero-div}
use native.Mathlib.Omega.{arith}
use lib.IntN.{pos, +ℤ_invr}
use Rattle.isqrt.specs.Root.{root_of}
use Rattle.isqrt.proofs.RootLaws.{root-le}
use Rattle.sample.specs.Sample.{Sample}
use Rattle.sample.specs.declared.FixedWeights.{FixedWeights}
use Rattle.hue_difference.proofs.HueDifferenceLaws.{hue_difference-self}
use Rattle.difference.specs.Parts.{Parts, weighted, part_of, parts_of, squared, sum_of, combined}
use Rattle.difference.specs.Pair.{Point, pair_ratio, primed_of, plain_of, pair_hue_difference, lightness_difference, chroma_difference}
use Rattle.difference.specs.Cie76.{cie76_of}
use Rattle.difference.specs.Cie94.{parts94_of, cie94_of}
use Rattle.difference.specs.Ciede2000.{parts00_of, figures_from, figures_of, ciede2000_of}
use Rattle.difference.specs.declared.cie94.Application.{Application}
use Rattle.difference.specs.declared.cie94.Comparison.{Comparison}

-- ---- no differences

pub no-lightness : (s : Sample) → lightness_difference s s ≡ pos 0
unfolding lightness_difference
no-lightness s = +ℤ_invr (pos s.l)

pub no-chroma : (p : Point) → chroma_difference p p ≡ pos 0
unfolding chroma_difference
no-chroma p = +ℤ_invr (pos p.c)

-- whatever the points are: H of equal samples is 0 by step 7
pub no-hue : (s : Sample) (p q : Point) → pair_hue_difference s s p q ≡ pos 0
unfolding pair_hue_difference
no-hue s p q = hue_difference-self s.a s.b _ _

-- ---- come to nothing

unfoldable pub no_parts : Parts
no_parts = record { l = pos 0; c = pos 0; h = pos 0 }

part-zero : (scale w : ℕ) → part_of (pos 0) scale w ≡ pos 0
unfolding part_of
part-zero scale w = rw (zero-mul scale, zero-div w)

pub parts-zero : (k : FixedWeights) (sl sc sh : ℕ) → parts_of k (pos 0) (pos 0) (pos 0) sl sc sh ≡ no_parts
unfolding parts_of no_parts
parts-zero k sl sc sh = λ i. record {
  l = part-zero 100000000000 (weighted k.l sl) i;
  c = part-zero 100000000 (weighted k.c sc) i;
  h = part-zero 100000000 (weighted k.h sh) i;
}

root-zero : root_of 0 ≡ 0
root-zero = omega (arith, root-le 0 0 (le_refl 0))

pub combined-zero : (r : ℕ) → combined no_parts r ≡ 0
unfolding combined sum_of squared no_parts
combined-zero r = rw (zero-mul r) root-zero

-- ---- the three differences

module _ (w : FixedWeights) (s : Sample) where
  from_zero : (p : Point) (sl sc sh : ℕ)
      → parts_of w (lightness_difference s s) (chroma_difference p p) (pair_hue_difference s s p p) sl sc sh ≡ no_parts
  from_zero p sl sc sh =
      (λ i. parts_of w (no-lightness s i) (no-chroma p i) (no-hue s p p i) sl sc sh) ∙
      parts-zero w sl sc sh

  -- the parts l, c and h of CIEDE2000 of equal samples are 0
  pub parts-equal : (figures_of w s s).parts ≡ no_parts
  unfolding figures_of figures_from parts00_of
  parts-equal = from_zero (primed_of (pair_ratio s s) s) _ _ _

  -- CIEDE2000 of equal samples is 0
  pub ciede2000-equal : ciede2000_of w s s ≡ 0
  unfolding ciede2000_of figures_of figures_from
  ciede2000-equal = ap (λ p. combined p (figures_of w s s).terms.r) parts-equal ∙ combined-zero _

  -- so are the parts of CIE94
  pub parts94-equal : (application : Application) (comparison : Comparison) → parts94_of application comparison w s s ≡ no_parts
  unfolding parts94_of
  parts94-equal application comparison = from_zero (plain_of s) _ _ _

  -- CIE94 of equal samples is 0, with either constants, with and without a standard
  pub cie94-equal : (application : Application) (comparison : Comparison) → cie94_of application comparison w s s ≡ 0
  unfolding cie94_of
  cie94-equal application comparison = ap (λ p. combined p 0) (parts94-equal application comparison) ∙ combined-zero 0

-- CIE76 of equal samples is 0
pub cie76-equal : (s : Sample) → cie76_of s s ≡ 0
unfolding cie76_of squared
cie76-equal s =
    (λ i. root_of (10000 * (squared (no-lightness s i) + squared (+ℤ_invr s.a i) + squared (+ℤ_invr s.b i)))) ∙ root-zero
