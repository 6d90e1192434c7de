-- Steps 1 to 11 put together for a pair of samples; each step stands in the crate named in its comment. Assumes nothing.
use Rattle.std.specs.Prelude.{ℕ, ◌+◌, Bool, ◌||◌, ℤ, pos, ◌-ℤ◌}
use Rattle.sample.specs.Sample.{Sample}
use Rattle.chroma.specs.Chroma.{chroma_of, ratio_of, primed_a, in_ten_millionths, primed_chroma}
use Rattle.hue.specs.Hue.{grey, hue_of}
use Rattle.hue_difference.specs.HueDifference.{far_of, no_hue_of, hue_negative, hue_size, hue_difference_of, mean_hue_of}
use Rattle.weighting.specs.Weighting.{hue_term, lightness_weight, chroma_weight, hue_weight, rotation}
use Rattle.difference.specs.declared.ciede2000.Terms.{Terms}

-- step 1 (chroma): C
unfoldable pub sample_chroma : Sample → ℕ
sample_chroma s = chroma_of s.a s.b

-- step 2 (chroma): Z(C1 + C2)
unfoldable pub pair_ratio : Sample → Sample → ℕ
pair_ratio s t = ratio_of (sample_chroma s + sample_chroma t)

-- a point of the plane of a and b with its chroma, all in 10^-7
pub record Point : Type 0 where
  pub a : ℤ
  pub b : ℤ
  pub c : ℕ

-- step 3 (chroma): a', b' and C' of a sample, z being Z(C1 + C2)
unfoldable pub primed_of : ℕ → Sample → Point
primed_of z s = record { a = primed_a s.a z; b = in_ten_millionths s.b; c = primed_chroma (primed_a s.a z) (in_ten_millionths s.b) }

-- for CIE94: 1000 a, 1000 b and C
unfoldable pub plain_of : Sample → Point
plain_of s = record { a = in_ten_millionths s.a; b = in_ten_millionths s.b; c = sample_chroma s }

-- step 5 (hue)
unfoldable pub point_hue : Point → ℕ
point_hue p = hue_of p.a p.b p.c

-- step 6 (hue_difference): more than half a turn apart, decided by the samples' own a and b
unfoldable pub pair_far : Sample → Sample → Bool
pair_far s t = far_of s.a s.b t.a t.b

-- step 7 (hue_difference): the hue difference, 01's H
unfoldable pub pair_hue_difference : Sample → Sample → Point → Point → ℤ
pair_hue_difference s t p q =
    hue_difference_of (no_hue_of s.a s.b t.a t.b) (hue_negative s.a s.b t.a t.b)
    (hue_size p.a p.b p.c q.a q.b q.c)

-- step 8 (hue_difference)
unfoldable pub pair_mean_hue : Sample → Sample → Point → Point → ℕ
pair_mean_hue s t p q = mean_hue_of (grey s.a s.b || grey t.a t.b) (pair_far s t) (point_hue p) (point_hue q)

-- steps 9 to 11 (weighting): T, SL, SC, SH and R, of both lightnesses, s = C1' + C2' and the mean hue
unfoldable pub terms_of : ℕ → ℕ → ℕ → ℕ → Terms
terms_of l1 l2 s mean =
    record {
      t = hue_term mean;
      sl = lightness_weight l1 l2;
      sc = chroma_weight s;
      sh = hue_weight s (hue_term mean);
      r = rotation (ratio_of s) mean;
    }

-- the differences, sample 2 minus sample 1: dL, and dC or dC'
unfoldable pub lightness_difference : Sample → Sample → ℤ
lightness_difference s t = pos t.l -ℤ pos s.l

unfoldable pub chroma_difference : Point → Point → ℤ
chroma_difference p q = pos q.c -ℤ pos p.c
