-- The exchange of the samples. CIEDE2000, CIE76 and CIE94 without a standard are the same from sample 2 to sample 1, for all
-- samples and all weights. Of CIEDE2000's figures the signed ones change their sign, those of one sample change places, and
-- all others stay; the parts of CIE94 change their sign. With a standard CIE94 has no such law: sample 1's chroma weighs.
-- Assumes nothing.
use mathlib.Core.Path.{◌≡◌, sym, ap, ◌∙◌}
use mathlib.Core.Bool.{or_comm}
use Prim.Native.Nat.{ℕ, ◌+◌, ◌*◌}
use native.Mathlib.Nat.{add_comm}
use lib.IntN.{ℤ, pos, neg_ℤ, nat_abs, ◌-ℤ◌, ◌*ℤ◌, neg_ℤ-neg_ℤ}
use lib.Signed.{quot_z}
use Rattle.isqrt.specs.Root.{root_of}
use Rattle.signed.proofs.SignedLaws.{nat_abs-neg, neg-mul, mul-neg, neg-sub, quot-neg}
use Rattle.sample.specs.Sample.{Sample}
use Rattle.sample.specs.declared.FixedWeights.{FixedWeights}
use Rattle.chroma.specs.Chroma.{ratio_of}
use Rattle.hue.specs.Hue.{grey}
use Rattle.hue_difference.specs.HueDifference.{mean_hue_of}
use Rattle.hue_difference.proofs.HueDifferenceLaws.{far-swap, hue-difference-swap, mean-hue-swap}
use Rattle.weighting.proofs.WeightingLaws.{lightness_weight-comm}
use Rattle.difference.specs.Parts.{Parts, weighted, part_of, parts_of, squared, sum_of, combined}
use Rattle.difference.specs.Pair.{Point, sample_chroma, pair_ratio, primed_of, plain_of, point_hue, pair_far, pair_hue_difference}
use Rattle.difference.specs.Pair.{pair_mean_hue, terms_of, lightness_difference, chroma_difference}
use Rattle.difference.specs.Ciede2000.{Figures, parts00_of, terms00_of, figures_from, figures_of, ciede2000_of}
use Rattle.difference.specs.Cie76.{cie76_of}
use Rattle.difference.specs.Cie94.{chroma_constant, hue_constant, weighting_function, parts94_of, cie94_of}
use Rattle.difference.specs.declared.cie94.Application.{Application}
use Rattle.difference.specs.declared.cie94.Comparison.TheVariants.{WithoutStandard}
use Rattle.difference.proofs.WeightingChroma.{mean_chroma-exchanged}

-- ---- step 12 of the opposite differences

-- each part with the other sign
unfoldable pub negated : Parts → Parts
negated p = record { l = neg_ℤ p.l; c = neg_ℤ p.c; h = neg_ℤ p.h }

pub part-negated : (d : ℤ) (scale w : ℕ) → part_of (neg_ℤ d) scale w ≡ neg_ℤ (part_of d scale w)
unfolding part_of
part-negated d scale w = ap (λ x. quot_z x (pos w)) (neg-mul d (pos scale)) ∙ quot-neg (d *ℤ pos scale) w

pub parts-negated : (k : FixedWeights) (dl dc dh : ℤ) (sl sc sh : ℕ)
    → parts_of k (neg_ℤ dl) (neg_ℤ dc) (neg_ℤ dh) sl sc sh ≡ negated (parts_of k dl dc dh sl sc sh)
unfolding parts_of negated
parts-negated k dl dc dh sl sc sh = λ i. record {
  l = part-negated dl 100000000000 (weighted k.l sl) i;
  c = part-negated dc 100000000 (weighted k.c sc) i;
  h = part-negated dh 100000000 (weighted k.h sh) i;
}

pub squared-negated : (x : ℤ) → squared (neg_ℤ x) ≡ squared x
unfolding squared
squared-negated x = ap (λ n. n * n) (nat_abs-neg x)

-- minus times minus
turn-negated : (c h : ℤ) (r : ℕ) → neg_ℤ c *ℤ quot_z (neg_ℤ h *ℤ pos r) (pos 1000000000) ≡ c *ℤ quot_z (h *ℤ pos r) (pos 1000000000)
turn-negated c h r =
    ap (λ x. neg_ℤ c *ℤ quot_z x (pos 1000000000)) (neg-mul h (pos r))
    ∙ ap (λ x. neg_ℤ c *ℤ x) (quot-neg (h *ℤ pos r) 1000000000)
    ∙ neg-mul c _ ∙ ap neg_ℤ (mul-neg c _) ∙ neg_ℤ-neg_ℤ _

-- what is under the root stays
pub sum-negated : (p : Parts) (r : ℕ) → sum_of (negated p) r ≡ sum_of p r
unfolding sum_of negated
sum-negated p r =
    λ i. pos (squared-negated p.l i + squared-negated p.c i + squared-negated p.h i) -ℤ turn-negated p.c p.h r i

pub combined-negated : (p : Parts) (r : ℕ) → combined (negated p) r ≡ combined p r
unfolding combined
combined-negated p r = ap (λ x. root_of (nat_abs x)) (sum-negated p r)

-- ---- the steps before, of sample 2 and sample 1

module _ (s t : Sample) where
  -- Z stays
  pub ratio-exchanged : pair_ratio t s ≡ pair_ratio s t
  unfolding pair_ratio
  ratio-exchanged = ap ratio_of (add_comm (sample_chroma t) (sample_chroma s))

  -- far stays
  pub far-exchanged : pair_far t s ≡ pair_far s t
  unfolding pair_far
  far-exchanged = far-swap s.a s.b t.a t.b

  -- dL changes its sign
  pub lightness-exchanged : lightness_difference t s ≡ neg_ℤ (lightness_difference s t)
  unfolding lightness_difference
  lightness-exchanged = sym (neg-sub (pos t.l) (pos s.l))

  module _ (p q : Point) where
    -- so does dC'
    pub chroma-exchanged : chroma_difference q p ≡ neg_ℤ (chroma_difference p q)
    unfolding chroma_difference
    chroma-exchanged = sym (neg-sub (pos q.c) (pos p.c))

    -- and H
    pub hue-exchanged : pair_hue_difference t s q p ≡ neg_ℤ (pair_hue_difference s t p q)
    unfolding pair_hue_difference
    hue-exchanged = hue-difference-swap s.a s.b t.a t.b p.a p.b q.a q.b p.c q.c

    -- the mean hue stays
    pub mean-exchanged : pair_mean_hue t s q p ≡ pair_mean_hue s t p q
    unfolding pair_mean_hue
    mean-exchanged =
        (λ i. mean_hue_of (or_comm (grey t.a t.b) (grey s.a s.b) i) (far-exchanged i) (point_hue q) (point_hue p))
        ∙ mean-hue-swap _ _ (point_hue p) (point_hue q)

    -- T, SL, SC, SH and R stay
    pub terms-exchanged : terms00_of t s q p ≡ terms00_of s t p q
    unfolding terms00_of terms_of
    terms-exchanged =
        (λ i. terms_of t.l s.l (add_comm q.c p.c i) (mean-exchanged i)) ∙
        (λ i. record {
          t = (terms00_of s t p q).t;
          sl = lightness_weight-comm t.l s.l i;
          sc = (terms00_of s t p q).sc;
          sh = (terms00_of s t p q).sh;
          r = (terms00_of s t p q).r;
        })

    module _ (w : FixedWeights) where
      from_parts : parts00_of w t s q p (terms00_of t s q p) ≡ negated (parts00_of w s t p q (terms00_of s t p q))
      unfolding parts00_of
      from_parts =
          (λ i. parts_of w (lightness-exchanged i) (chroma-exchanged i) (hue-exchanged i) (terms-exchanged i).sl
          (terms-exchanged i).sc (terms-exchanged i).sh)
          ∙ parts-negated w (lightness_difference s t) (chroma_difference p q) (pair_hue_difference s t p q) _ _ _

      from-difference : combined (parts00_of w t s q p (terms00_of t s q p)) (terms00_of t s q p).r ≡ combined
          (parts00_of w s t p q (terms00_of s t p q)) (terms00_of s t p q).r
      from-difference = (λ i. combined (from_parts i) (terms-exchanged i).r) ∙ combined-negated _ _

-- ---- the whole working

-- the figures of the samples in the other order: H, l, c and h have the other sign, C, the point and the hue of a sample
-- change places, and Z, far, the mean hue,
-- T, SL, SC, SH, R and the difference are the same
unfoldable pub exchanged : Figures → Figures
exchanged f =
    record {
      c1 = f.c2;
      p1 = f.p2;
      h1 = f.h2;
      c2 = f.c1;
      p2 = f.p1;
      h2 = f.h1;
      z = f.z;
      far = f.far;
      hue_difference = neg_ℤ f.hue_difference;
      mean = f.mean;
      terms = f.terms;
      parts = negated f.parts;
      difference = f.difference;
    }

from-exchanged : (w : FixedWeights) (s t : Sample) (p q : Point) → figures_from w t s q p ≡ exchanged (figures_from w s t p q)
unfolding figures_from exchanged
from-exchanged w s t p q = λ i. record {
  c1 = sample_chroma t;
  p1 = q;
  h1 = point_hue q;
  c2 = sample_chroma s;
  p2 = p;
  h2 = point_hue p;
  z = ratio-exchanged s t i;
  far = far-exchanged s t i;
  hue_difference = hue-exchanged s t p q i;
  mean = mean-exchanged s t p q i;
  terms = terms-exchanged s t p q i;
  parts = from_parts s t p q w i;
  difference = from-difference s t p q w i;
}

module _ (w : FixedWeights) (s t : Sample) where
  -- every figure of CIEDE2000, from the samples on
  pub figures-exchanged : figures_of w t s ≡ exchanged (figures_of w s t)
  unfolding figures_of
  figures-exchanged =
      ap (λ z. figures_from w t s (primed_of z t) (primed_of z s)) (ratio-exchanged s t) ∙
      from-exchanged w s t (primed_of (pair_ratio s t) s) (primed_of (pair_ratio s t) t)

  -- CIEDE2000 is symmetric: the difference from t to s is the difference from s to t
  pub ciede2000-symmetric : ciede2000_of w t s ≡ ciede2000_of w s t
  unfolding ciede2000_of exchanged
  ciede2000-symmetric = ap (λ f. f.difference) figures-exchanged

  -- the signed parts l, c and h of CIEDE2000 change their sign, each of them
  pub parts-exchanged : (figures_of w t s).parts ≡ negated (figures_of w s t).parts
  unfolding exchanged
  parts-exchanged = ap (λ f. f.parts) figures-exchanged

  pub l-exchanged : (figures_of w t s).parts.l ≡ neg_ℤ (figures_of w s t).parts.l
  unfolding negated
  l-exchanged = ap (λ p. p.l) parts-exchanged

  pub c-exchanged : (figures_of w t s).parts.c ≡ neg_ℤ (figures_of w s t).parts.c
  unfolding negated
  c-exchanged = ap (λ p. p.c) parts-exchanged

  pub h-exchanged : (figures_of w t s).parts.h ≡ neg_ℤ (figures_of w s t).parts.h
  unfolding negated
  h-exchanged = ap (λ p. p.h) parts-exchanged

-- ---- CIE94 without a standard

module _ (application : Application) (w : FixedWeights) (s t : Sample) where
  -- the parts change their sign
  pub parts94-exchanged : parts94_of application WithoutStandard w t s ≡ negated (parts94_of application WithoutStandard w s t)
  unfolding parts94_of
  parts94-exchanged =
      let c = mean_chroma-exchanged (sample_chroma s) (sample_chroma t) in
      let p = plain_of s in
      let q = plain_of t in
      (λ i. parts_of w (lightness-exchanged s t i) (chroma-exchanged s t p q i) (hue-exchanged s t p q i) 1000000000
      (weighting_function (chroma_constant application) (c i)) (weighting_function (hue_constant application) (c i)))
      ∙ parts-negated w (lightness_difference s t) (chroma_difference p q) (pair_hue_difference s t p q) _ _ _

  -- and the difference stays
  pub cie94-symmetric : cie94_of application WithoutStandard w t s ≡ cie94_of application WithoutStandard w s t
  unfolding cie94_of
  cie94-symmetric = ap (λ p. combined p 0) parts94-exchanged ∙ combined-negated _ 0

-- ---- CIE76

-- CIE76 is symmetric
pub cie76-symmetric : (s t : Sample) → cie76_of t s ≡ cie76_of s t
unfolding cie76_of
cie76-symmetric s t =
    λ i. root_of (10000 * (lightness i + opposite t.a s.a i + opposite t.b s.b i))
  where
    opposite : (x y : ℤ) → squared (y -ℤ x) ≡ squared (x -ℤ y)
    opposite x y = ap squared (sym (neg-sub x y)) ∙ squared-negated (x -ℤ y)

    lightness : squared (lightness_difference t s) ≡ squared (lightness_difference s t)
    lightness = ap squared (lightness-exchanged s t) ∙ squared-negated (lightness_difference s t)
