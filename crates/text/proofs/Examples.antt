-- An example of the text form, and lines on the border of the form, by computation.
use mathlib.Core.Path.{◌≡◌, refl}
use mathlib.Core.List.{List, [], ◌∷◌, map}
use Prim.Native.Nat.{ℕ}
use lib.IntN.{pos, neg_ℤ}
use Rattle.decimal.specs.Writing.{last_digits, count_in, digits_of, minus_of, fixed_text}
use Rattle.text.specs.Figures.{figures_text, refused_text, header_text}
use Rattle.decimal.specs.Reading.{found, run_on, run_of, fraction_run, fraction_of, whole_run, decimal_of, after_space}
use Rattle.text.specs.Line.{read_colour, read_pair}
use Rattle.sample.specs.Sample.{colour_refusal, colour_sample}
use Rattle.buffer.specs.Parts.{start_with}
use Rattle.text.specs.Text.{plain_weights, figures_list, figures_line, pair_answer, answer_of, held_of, held_answer}
use Rattle.text.specs.Text.{answers_of, lines_of, text_of}
use Rattle.isqrt.specs.Root.{next_root, root_in, root_of}
use Rattle.gaussian.specs.Gaussian.{terms, exp_series, gaussian_entry, gaussian_between, gaussian_of}
use Rattle.sine.specs.Sine.{unit, pi, alternating, series, sine_entry, interpolated, sine_quarter, sine_half, sine_turn, sine_of, cosine_of}
use Rattle.hue.specs.Hue.{grey, quadrant_of, turned_x, turned_y, largest, reaches, tenth_of, rest_of, angle_of, hue_in, hue_of}
use Rattle.chroma.specs.Chroma.{sum_of_squares, chroma_of, power_of, hypotenuse_of, ratio_of, primed_a, in_ten_millionths, primed_chroma}
use Rattle.weighting.specs.Weighting.{term_of, hue_term_z, hue_term, lightness_offset, lightness_weight_at, lightness_weight}
use Rattle.weighting.specs.Weighting.{chroma_weight, hue_weight, hue_distance, rotation_sine, rotation}
use Rattle.hue_difference.specs.HueDifference.{cross_of, later_in, second_later, first_later, far_of, opposite_of, no_hue_of}
use Rattle.hue_difference.specs.HueDifference.{hue_negative, dot_of, hue_size, hue_difference_of, mean_hue_of}
use Rattle.difference.specs.Cie76.{cie76_of}
use Rattle.difference.specs.Cie94.{weighting_chroma, weighting_function, parts94_of, cie94_of}
use Rattle.difference.specs.Ciede2000.{parts00_of, terms00_of, figures_from, figures_of}
use Rattle.difference.specs.Pair.{sample_chroma, pair_ratio, primed_of, plain_of, point_hue, pair_far, pair_hue_difference}
use Rattle.difference.specs.Pair.{pair_mean_hue, terms_of, lightness_difference, chroma_difference}
use Rattle.difference.specs.Parts.{weighted, part_of, parts_of, squared, sum_of, combined}

-- 50 0 0 40 0 0, and 101 0 0 50 0 0
pub input : List ℕ
input =
    53 ∷ 48 ∷ 32 ∷ 48 ∷ 32 ∷ 48 ∷ 32 ∷ 52 ∷ 48 ∷ 32 ∷ 48 ∷ 32 ∷ 48 ∷ 10 ∷ 49 ∷ 48 ∷ 49 ∷ 32 ∷ 48 ∷ 32 ∷ 48 ∷ 32 ∷ 53 ∷
    48 ∷ 32 ∷ 48 ∷ 32 ∷ 48 ∷ 10 ∷ []

-- 10.000000 10.000000 9.470578 -9.470578 0.000000 0.000000, and refused 2
pub output : List ℕ
output =
    100 ∷ 101 ∷ 55 ∷ 54 ∷ 32 ∷ 100 ∷ 101 ∷ 57 ∷ 52 ∷ 32 ∷ 100 ∷ 101 ∷ 48 ∷ 48 ∷ 32 ∷ 100 ∷ 108 ∷ 32 ∷ 100 ∷ 99 ∷ 32 ∷
    100 ∷ 104 ∷ 10 ∷ 49 ∷ 48 ∷ 46 ∷ 48 ∷ 48 ∷ 48 ∷ 48 ∷ 48 ∷ 48 ∷ 32 ∷ 49 ∷ 48 ∷ 46 ∷ 48 ∷ 48 ∷ 48 ∷ 48 ∷ 48 ∷ 48 ∷
    32 ∷ 57 ∷ 46 ∷ 52 ∷ 55 ∷ 48 ∷ 53 ∷ 55 ∷ 56 ∷ 32 ∷ 45 ∷ 57 ∷ 46 ∷ 52 ∷ 55 ∷ 48 ∷ 53 ∷ 55 ∷ 56 ∷ 32 ∷ 48 ∷ 46 ∷ 48 ∷
    48 ∷ 48 ∷ 48 ∷ 48 ∷ 48 ∷ 32 ∷ 48 ∷ 46 ∷ 48 ∷ 48 ∷ 48 ∷ 48 ∷ 48 ∷ 48 ∷ 10 ∷ 114 ∷ 101 ∷ 102 ∷ 117 ∷ 115 ∷ 101 ∷
    100 ∷ 32 ∷ 50 ∷ 10 ∷ []

pub example : text_of input ≡ output
unfolding input output last_digits count_in digits_of minus_of fixed_text figures_text refused_text header_text run_on run_of
    fraction_run fraction_of whole_run decimal_of after_space read_colour read_pair colour_refusal colour_sample plain_weights
    figures_list figures_line pair_answer answer_of held_of held_answer answers_of start_with lines_of text_of next_root root_in
    root_of terms exp_series gaussian_entry gaussian_between gaussian_of unit pi alternating series sine_entry
    interpolated sine_quarter sine_half sine_turn sine_of cosine_of grey quadrant_of turned_x turned_y largest reaches
    tenth_of rest_of angle_of hue_in hue_of sum_of_squares chroma_of power_of hypotenuse_of ratio_of primed_a in_ten_millionths
    primed_chroma term_of hue_term_z hue_term lightness_offset lightness_weight_at lightness_weight chroma_weight hue_weight
    hue_distance rotation_sine rotation cross_of later_in second_later first_later far_of opposite_of no_hue_of hue_negative
    dot_of hue_size hue_difference_of mean_hue_of cie76_of weighting_chroma weighting_function parts94_of cie94_of parts00_of terms00_of
    figures_from figures_of sample_chroma pair_ratio primed_of plain_of point_hue pair_far pair_hue_difference pair_mean_hue
    terms_of lightness_difference chroma_difference weighted part_of parts_of squared sum_of combined
example = refl

pub borders : List (List ℕ)
borders =
    -- a blank line
    ([]) ∷
    -- 50 0 0 40 0 0<carriage return>
    (53 ∷ 48 ∷ 32 ∷ 48 ∷ 32 ∷ 48 ∷ 32 ∷ 52 ∷ 48 ∷ 32 ∷ 48 ∷ 32 ∷ 48 ∷ 13 ∷ []) ∷
    -- 1.00000 0 0 1 0 0
    (49 ∷ 46 ∷ 48 ∷ 48 ∷ 48 ∷ 48 ∷ 48 ∷ 32 ∷ 48 ∷ 32 ∷ 48 ∷ 32 ∷ 49 ∷ 32 ∷ 48 ∷ 32 ∷ 48 ∷ []) ∷
    -- 1000 0 0 1 0 0
    (49 ∷ 48 ∷ 48 ∷ 48 ∷ 32 ∷ 48 ∷ 32 ∷ 48 ∷ 32 ∷ 49 ∷ 32 ∷ 48 ∷ 32 ∷ 48 ∷ []) ∷
    -- 50  0 0 40 0 0
    (53 ∷ 48 ∷ 32 ∷ 32 ∷ 48 ∷ 32 ∷ 48 ∷ 32 ∷ 52 ∷ 48 ∷ 32 ∷ 48 ∷ 32 ∷ 48 ∷ []) ∷
    -- 101 0 0 50 0
    (49 ∷ 48 ∷ 49 ∷ 32 ∷ 48 ∷ 32 ∷ 48 ∷ 32 ∷ 53 ∷ 48 ∷ 32 ∷ 48 ∷ []) ∷
    -- .5 0 0 1 0 0
    (46 ∷ 53 ∷ 32 ∷ 48 ∷ 32 ∷ 48 ∷ 32 ∷ 49 ∷ 32 ∷ 48 ∷ 32 ∷ 48 ∷ []) ∷
    -- -0.0001 0 0 50 0 0
    (45 ∷ 48 ∷ 46 ∷ 48 ∷ 48 ∷ 48 ∷ 49 ∷ 32 ∷ 48 ∷ 32 ∷ 48 ∷ 32 ∷ 53 ∷ 48 ∷ 32 ∷ 48 ∷ 32 ∷ 48 ∷ []) ∷
    -- 50 128.0001 0 101 0 0
    (53 ∷ 48 ∷ 32 ∷ 49 ∷ 50 ∷ 56 ∷ 46 ∷ 48 ∷ 48 ∷ 48 ∷ 49 ∷ 32 ∷ 48 ∷ 32 ∷ 49 ∷ 48 ∷ 49 ∷ 32 ∷ 48 ∷ 32 ∷ 48 ∷ []) ∷
    -- 50 0 0 100.0001 0 0
    (53 ∷ 48 ∷ 32 ∷ 48 ∷ 32 ∷ 48 ∷ 32 ∷ 49 ∷ 48 ∷ 48 ∷ 46 ∷ 48 ∷ 48 ∷ 48 ∷ 49 ∷ 32 ∷ 48 ∷ 32 ∷ 48 ∷ []) ∷
    []

pub refusals : map held_answer (map held_of borders) ≡ map refused_text (9 ∷ 9 ∷ 9 ∷ 9 ∷ 9 ∷ 9 ∷ 9 ∷ 2 ∷ 3 ∷ 2 ∷ [])
unfolding borders figures_text refused_text header_text run_on run_of fraction_run fraction_of whole_run decimal_of
    after_space read_colour read_pair colour_refusal colour_sample pair_answer answer_of held_of held_answer
refusals = refl

-- -0 -128 128 100.0000 0 0
pub limits : List ℕ
limits =
    45 ∷ 48 ∷ 32 ∷ 45 ∷ 49 ∷ 50 ∷ 56 ∷ 32 ∷ 49 ∷ 50 ∷ 56 ∷ 32 ∷ 49 ∷ 48 ∷ 48 ∷ 46 ∷ 48 ∷ 48 ∷ 48 ∷ 48 ∷ 32 ∷ 48 ∷ 32 ∷
    48 ∷ []

pub accepted : read_pair limits
    ≡ found
    (record { l = pos 0; a = neg_ℤ (pos 1280000); b = pos 1280000 }, record { l = pos 1000000; a = pos 0; b = pos 0 })
    []
unfolding limits run_on run_of fraction_run fraction_of whole_run decimal_of after_space read_colour read_pair
accepted = refl

-- empty input
pub empty : text_of [] ≡ header_text
unfolding text_of answers_of lines_of header_text
empty = refl
