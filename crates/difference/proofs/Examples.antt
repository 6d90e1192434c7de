-- The differences of some pairs, by computation from the definitions: rows of 01's proved table, and pairs of Table I of source 001.
-- Assumes nothing.
use mathlib.Core.Path.{◌≡◌, refl}
use mathlib.Core.Bool.{Bool, true, false}
use mathlib.Core.List.{List, [], ◌∷◌, map}
use Prim.Native.Nat.{ℕ}
use lib.IntN.{ℤ, pos, neg_ℤ}
use Rattle.isqrt.specs.Root.{next_root, root_in, root_of}
use Rattle.sine.specs.Sine.{unit, pi, alternating, series, sine_entry, interpolated, sine_quarter, sine_half, sine_turn, sine_of, cosine_of}
use Rattle.gaussian.specs.Gaussian.{terms, exp_series, gaussian_entry, gaussian_between, gaussian_of}
use Rattle.sample.specs.Sample.{Sample}
use Rattle.sample.specs.declared.FixedWeights.{FixedWeights}
use Rattle.chroma.specs.Chroma.{sum_of_squares, chroma_of, power_of, hypotenuse_of, ratio_of, primed_a, in_ten_millionths, primed_chroma}
use Rattle.hue.specs.Hue.{grey, quadrant_of, turned_x, turned_y, largest, reaches, tenth_of, rest_of, angle_of, hue_in, hue_of}
use Rattle.hue_difference.specs.HueDifference.{cross_of, later_in, second_later, first_later, far_of, opposite_of, no_hue_of}
use Rattle.hue_difference.specs.HueDifference.{hue_negative, dot_of, hue_size, hue_difference_of, mean_hue_of}
use Rattle.weighting.specs.Weighting.{term_of, hue_term_z, hue_term, lightness_offset, lightness_weight_at, lightness_weight}
use Rattle.weighting.specs.Weighting.{chroma_weight, hue_weight, hue_distance, rotation_sine, rotation}
use Rattle.difference.specs.Parts.{weighted, part_of, parts_of, squared, sum_of, combined}
use Rattle.difference.specs.Pair.{sample_chroma, pair_ratio, primed_of, plain_of, point_hue, pair_far, pair_hue_difference}
use Rattle.difference.specs.Pair.{pair_mean_hue, terms_of, lightness_difference, chroma_difference}
use Rattle.difference.specs.Cie76.{cie76_of}
use Rattle.difference.specs.Cie94.{weighting_chroma, weighting_function, parts94_of, cie94_of}
use Rattle.difference.specs.declared.cie94.Application.{Application}
use Rattle.difference.specs.declared.cie94.Application.TheVariants.{GraphicArts, Textiles}
use Rattle.difference.specs.declared.cie94.Comparison.{Comparison}
use Rattle.difference.specs.declared.cie94.Comparison.TheVariants.{WithStandard, WithoutStandard}
use Rattle.difference.specs.Ciede2000.{parts00_of, terms00_of, figures_from, figures_of}

abbrev pub sample : ℕ → ℤ → ℤ → Sample
sample l a b = record { l = l; a = a; b = b }

abbrev pub grey_of : ℕ → Sample
grey_of l = sample l (pos 0) (pos 0)

-- sample 1 and sample 2 of pair 1 of Table I
abbrev pub first : Sample
first = sample 500000 (pos 26772) (neg_ℤ (pos 797751))

abbrev pub second : Sample
second = sample 500000 (pos 0) (neg_ℤ (pos 827485))

-- sample 1 of pairs 9, 10 and 11
abbrev pub ninth : Sample
ninth = sample 500000 (pos 24900) (neg_ℤ (pos 10))

-- kL, with kC = kH = 1
abbrev pub weights : ℕ → FixedWeights
weights kl = record { l = kl; c = 10000; h = 10000 }

-- CIE76 of pair 1
pub cie76-pair-1 : cie76_of first second ≡ 4001063
unfolding next_root root_in root_of squared lightness_difference cie76_of
cie76-pair-1 = refl

-- CIE94 for graphic arts and for textiles, with a standard and then without
unfoldable pub row94 : Sample × Sample → List ℕ
row94 r = of GraphicArts WithStandard ∷ of Textiles WithStandard ∷ of GraphicArts WithoutStandard ∷ of Textiles WithoutStandard ∷ []
  where
    of : Application → Comparison → ℕ
    of application comparison = cie94_of application comparison (weights 10000) r.0 r.1

-- pair 1, both ways round: without a standard it is the same; the chromas 9 and 4, whose root(C1 × C2) is 6, of one hue and
-- a quarter of a turn apart; a grey, beside which no chroma weighs
unfoldable pub pairs94 : List (Sample × Sample)
pairs94 =
    (first, second) ∷
    (second, first) ∷
    (sample 500000 (pos 90000) (pos 0), sample 500000 (pos 40000) (pos 0)) ∷
    (sample 500000 (pos 0) (pos 90000), sample 500000 (pos 40000) (pos 0)) ∷
    (sample 500000 (pos 100000) (pos 0), grey_of 500000) ∷
    []

pub cie94-rows :
    map row94 pairs94 ≡
    (1395038 ∷ 1423045 ∷ 1380128 ∷ 1408308 ∷ []) ∷
    (1365284 ∷ 1393629 ∷ 1380128 ∷ 1408308 ∷ []) ∷
    (3558718 ∷ 3491620 ∷ 3937007 ∷ 3881987 ∷ []) ∷
    (8279813 ∷ 8305376 ∷ 8723587 ∷ 8737476 ∷ []) ∷
    (6896551 ∷ 6756756 ∷ 10000000 ∷ 10000000 ∷ []) ∷
    []
unfolding next_root root_in root_of sum_of_squares chroma_of in_ten_millionths grey quadrant_of cross_of later_in second_later
    opposite_of no_hue_of hue_negative dot_of hue_size hue_difference_of weighted part_of parts_of squared sum_of combined sample_chroma
    plain_of pair_hue_difference lightness_difference chroma_difference weighting_chroma weighting_function
    parts94_of cie94_of row94 pairs94
cie94-rows = refl

-- kL, sample 1 and sample 2: the greys L 50 and 40, at two weights, and L 0 and 100; pair 1, pair 7 whose sample 1 is grey,
-- and pairs 9, 10 and 11, whose hues
-- are a little less than half a turn apart, exactly half a turn, and a little more
unfoldable pub rows : List (ℕ × Sample × Sample)
rows =
    (10000, grey_of 500000, grey_of 400000) ∷
    (20000, grey_of 500000, grey_of 400000) ∷
    (10000, grey_of 0, grey_of 1000000) ∷
    (10000, first, second) ∷
    (10000, grey_of 500000, sample 500000 (neg_ℤ (pos 10000)) (pos 20000)) ∷
    (10000, ninth, sample 500000 (neg_ℤ (pos 24900)) (pos 9)) ∷
    (10000, ninth, sample 500000 (neg_ℤ (pos 24900)) (pos 10)) ∷
    (10000, ninth, sample 500000 (neg_ℤ (pos 24900)) (pos 11)) ∷
    []

-- C1', h1, C2', h2, the mean hue, T, SL, SC, SH and R; far; l, c and h; CIEDE2000
unfoldable pub row : ℕ × Sample × Sample → List ℕ × Bool × List ℤ × ℕ
row r =
    let f = figures_of (weights r.0) r.1 r.2 in
    let e = f.terms in
    let p = f.parts in
    (f.p1.c ∷ f.h1 ∷ f.p2.c ∷ f.h2 ∷ f.mean ∷ e.t ∷ e.sl ∷ e.sc ∷ e.sh ∷ e.r ∷ [], f.far, p.l ∷ p.c ∷ p.h ∷ [], f.difference)

-- CIEDE2000 and its figures. Table I prints 2.0425 for pair 1, 2.3669 for pair 7, and 7.1792, 7.1792 and 7.2195 for pairs 9
-- to 11. Rounded to four decimals
-- these are its numbers, and its columns C', h', mean hue, T, SL, SC and SH too; its RT is minus R.
pub ciede2000-rows :
    map row rows ≡
    (0 ∷ 0 ∷ 0 ∷ 0 ∷ 0 ∷ 1320224588 ∷ 1055901699 ∷ 1000000000 ∷ 1000000000 ∷ 0 ∷ [], false, neg_ℤ (pos 9470578) ∷ pos 0 ∷ pos 0 ∷ [], 9470578) ∷
    (0 ∷ 0 ∷ 0 ∷ 0 ∷ 0 ∷ 1320224588 ∷ 1055901699 ∷ 1000000000 ∷ 1000000000 ∷ 0 ∷ [], false, neg_ℤ (pos 4735289) ∷ pos 0 ∷ pos 0 ∷ [], 4735289) ∷
    (0 ∷ 0 ∷ 0 ∷ 0 ∷ 0 ∷ 1320224588 ∷ 1000000000 ∷ 1000000000 ∷ 1000000000 ∷ 0 ∷ [], false, pos 100000000 ∷ pos 0 ∷ pos 0 ∷ [], 100000000) ∷ (
      798200157 ∷ 271922212 ∷ 827485000 ∷ 270000000 ∷ 270961106 ∷ 690696586 ∷ 1000000000 ∷ 4657791603 ∷ 1842141390 ∷
          1704219582 ∷ [],
      false,
      pos 0 ∷ pos 628728 ∷ neg_ℤ (pos 1480032) ∷ [],
      2042457,
    ) ∷ (
      0 ∷ 0 ∷ 24999943 ∷ 126869723 ∷ 126869723 ∷ 1219996604 ∷ 1000000000 ∷ 1056249871 ∷ 1022874883 ∷ 0 ∷ [],
      false,
      pos 0 ∷
          pos 2366858 ∷ pos 0 ∷ [],
      2366858,
    ) ∷ (
      37346118 ∷ 359984658 ∷ 37346118 ∷ 179986192 ∷ 269985425 ∷ 721214522 ∷ 1000000000 ∷ 1168057531 ∷ 1040401843 ∷ 2176566 ∷
          [],
      false,
      pos 0 ∷ pos 0 ∷ neg_ℤ (pos 7179171) ∷ [],
      7179171,
    ) ∷ (
      37346118 ∷ 359984658 ∷ 37346118 ∷ 179984658 ∷ 269984658 ∷ 721238824 ∷ 1000000000 ∷ 1168057531 ∷ 1040403205 ∷ 2176548 ∷
          [],
      false,
      pos 0 ∷ pos 0 ∷ neg_ℤ (pos 7179162) ∷ [],
      7179162,
    ) ∷ (
      37346118 ∷ 359984658 ∷ 37346118 ∷ 179983123 ∷ 89983890 ∷ 617541675 ∷ 1000000000 ∷ 1168057531 ∷ 1034594176 ∷ 0 ∷ [],
      true,
      pos 0 ∷ pos 0 ∷ pos 7219471 ∷ [],
      7219471,
    ) ∷
    []
unfolding next_root root_in root_of unit pi alternating series sine_entry interpolated sine_quarter sine_half sine_turn sine_of
    cosine_of terms exp_series gaussian_entry gaussian_between gaussian_of sum_of_squares chroma_of power_of hypotenuse_of ratio_of
    primed_a in_ten_millionths primed_chroma grey quadrant_of turned_x turned_y largest reaches tenth_of rest_of angle_of hue_in hue_of
    cross_of later_in second_later first_later far_of opposite_of no_hue_of hue_negative dot_of hue_size hue_difference_of mean_hue_of
    term_of hue_term_z hue_term lightness_offset lightness_weight_at lightness_weight chroma_weight hue_weight hue_distance
    rotation_sine rotation weighted part_of parts_of squared sum_of combined sample_chroma pair_ratio primed_of point_hue pair_far
    pair_hue_difference pair_mean_hue terms_of lightness_difference chroma_difference parts00_of terms00_of figures_from figures_of row
    rows
ciede2000-rows = refl
