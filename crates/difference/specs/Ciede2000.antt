-- CIEDE2000 in whole numbers of 10^-6, and every figure on the way. Assumes nothing.
use Rattle.std.specs.Prelude.{ℕ, ◌+◌, Bool, ℤ}
use Rattle.sample.specs.Sample.{Sample}
use Rattle.sample.specs.declared.FixedWeights.{FixedWeights}
use Rattle.difference.specs.declared.ciede2000.Terms.{Terms}
use Rattle.difference.specs.Parts.{Parts, parts_of, combined}
use Rattle.difference.specs.Pair.{Point, sample_chroma, pair_ratio, primed_of, point_hue, pair_far, pair_hue_difference}
use Rattle.difference.specs.Pair.{pair_mean_hue, terms_of, lightness_difference, chroma_difference}

-- CIEDE2000's figures; p and q are the samples' points of step 3
pub record Figures : Type 0 where
  pub c1 : ℕ
  pub p1 : Point
  pub h1 : ℕ
  pub c2 : ℕ
  pub p2 : Point
  pub h2 : ℕ
  pub z : ℕ
  pub far : Bool
  pub hue_difference : ℤ
  pub mean : ℕ
  pub terms : Terms
  pub parts : Parts
  pub difference : ℕ

-- step 12's parts, of the terms e of steps 9 to 11
unfoldable pub parts00_of : FixedWeights → Sample → Sample → Point → Point → Terms → Parts
parts00_of w s t p q e =
    parts_of w (lightness_difference s t) (chroma_difference p q) (pair_hue_difference s t p q) e.sl e.sc e.sh

-- steps 9 to 11
unfoldable pub terms00_of : Sample → Sample → Point → Point → Terms
terms00_of s t p q = terms_of s.l t.l (p.c + q.c) (pair_mean_hue s t p q)

-- the working from step 5 on
unfoldable pub figures_from : FixedWeights → Sample → Sample → Point → Point → Figures
figures_from w s t p q =
    record {
      c1 = sample_chroma s;
      p1 = p;
      h1 = point_hue p;
      c2 = sample_chroma t;
      p2 = q;
      h2 = point_hue q;
      z = pair_ratio s t;
      far = pair_far s t;
      hue_difference = pair_hue_difference s t p q;
      mean = pair_mean_hue s t p q;
      terms = terms00_of s t p q;
      parts = parts00_of w s t p q (terms00_of s t p q);
      difference = combined (parts00_of w s t p q (terms00_of s t p q)) (terms00_of s t p q).r;
    }

-- the whole working
unfoldable pub figures_of : FixedWeights → Sample → Sample → Figures
figures_of w s t = figures_from w s t (primed_of (pair_ratio s t) s) (primed_of (pair_ratio s t) t)

-- CIEDE2000
unfoldable pub ciede2000_of : FixedWeights → Sample → Sample → ℕ
ciede2000_of w s t = (figures_of w s t).difference
