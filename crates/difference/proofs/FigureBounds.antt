-- The figures of an accepted pair that are never negative fit 63 bits, so that each can be given as a signed number. Assumes nothing.
use Prim.Native.Nat.{ℕ, ◌+◌, ◌^◌, ◌≤◌, ◌<◌}
use native.Mathlib.Nat.{lt_of_le_of_lt, lt_trans}
use native.Mathlib.Omega.{arith}
use lib.Dec.{lit<}
use Rattle.sample.specs.Sample.{Sample}
use Rattle.sample.specs.Inner.{SampleIn}
use Rattle.sample.specs.declared.FixedWeights.{FixedWeights}
use Rattle.chroma.specs.Chroma.{ratio_of}
use Rattle.chroma.proofs.ChromaLaws.{chroma-le, ratio-le, primed_a-le, in_ten_millionths-le, primed_chroma-le}
use Rattle.hue.proofs.HueLaws.{hue-lt}
use Rattle.hue_difference.proofs.HueDifferenceLaws.{mean-hue-lt-twice}
use Rattle.weighting.specs.Weighting.{hue_term}
use Rattle.weighting.proofs.WeightingLaws.{lightness_weight-le, chroma_weight-le, hue_weight-le, hue_term-le, rotation-le}
use Rattle.difference.specs.Pair.{Point, sample_chroma, pair_ratio, primed_of, point_hue, pair_mean_hue, terms_of}
use Rattle.difference.specs.Inner.{FiguresIn}
use Rattle.difference.specs.Ciede2000.{figures_of, figures_from, terms00_of}

chroma-in : (s : Sample) → SampleIn s → sample_chroma s ≤ 1810193359
unfolding sample_chroma
chroma-in s h = chroma-le s.a s.b h.a h.b

primed-in : (z : ℕ) (s : Sample) → SampleIn s → (primed_of z s).c ≤ 2307552816
unfolding primed_of
primed-in z s h = primed_chroma-le _ _ (primed_a-le s.a z h.a) (in_ten_millionths-le s.b h.b)

hue-in : (p : Point) → point_hue p < 360000000
unfolding point_hue
hue-in p = hue-lt p.a p.b p.c

mean-in : (s t : Sample) (p q : Point) → pair_mean_hue s t p q < 720000000
unfolding pair_mean_hue
mean-in s t p q = mean-hue-lt-twice _ _ _ _ (hue-in p) (hue-in q)

fits : {n : ℕ} (k : ℕ) → n ≤ k → k < 2 ^ 63 → n < 2 ^ 63
fits k h l = lt_of_le_of_lt h l

pub figures-in : (w : FixedWeights) (s t : Sample) → SampleIn s → SampleIn t → FiguresIn (figures_of w s t)
unfolding figures_of figures_from terms00_of terms_of pair_ratio
figures-in w s t hs ht =
    let z = ratio_of (sample_chroma s + sample_chroma t) in
    let p = primed_of z s in
    let q = primed_of z t in
    let sum : p.c + q.c ≤ 4615105632 = omega (arith, primed-in z s hs, primed-in z t ht) in
    let mean = pair_mean_hue s t p q in
    record {
      c1 = fits 1810193359 (chroma-in s hs) (lit< tt);
      cp1 = fits 2307552816 (primed-in z s hs) (lit< tt);
      h1 = lt_trans (hue-in p) (lit< tt);
      c2 = fits 1810193359 (chroma-in t ht) (lit< tt);
      cp2 = fits 2307552816 (primed-in z t ht) (lit< tt);
      h2 = lt_trans (hue-in q) (lit< tt);
      z = fits 1000000000 (ratio-le _) (lit< tt);
      mean = lt_trans (mean-in s t p q) (lit< tt);
      t = fits 1930000000 (hue_term-le mean) (lit< tt);
      sl = fits 1750000000 (lightness_weight-le s.l t.l hs.l ht.l) (lit< tt);
      sc = fits 11383987672 (chroma_weight-le (p.c + q.c) sum) (lit< tt);
      sh = fits 7680365402 (hue_weight-le (p.c + q.c) (hue_term mean) sum (hue_term-le mean)) (lit< tt);
      r = fits 2000000000 (rotation-le (ratio_of (p.c + q.c)) mean (ratio-le _)) (lit< tt);
    }
