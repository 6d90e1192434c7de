-- 01's proved table holds: one statement over the whole table, by computation. Assumes nothing.
use mathlib.Core.Path.{◌≡◌, refl}
use mathlib.Core.List.{map}
use lib.Ieee.{of_bits, le}
use Rattle.isqrt.specs.Root.{next_root, root_in, root_of}
use Rattle.sine.specs.Sine.{unit, pi, alternating, series, sine_entry, interpolated}
use Rattle.sine.specs.Sine.{sine_quarter, sine_half, sine_turn, sine_of, cosine_of}
use Rattle.gaussian.specs.Gaussian.{terms, exp_series, gaussian_entry, gaussian_between, gaussian_of}
use Rattle.chroma.specs.Chroma.{sum_of_squares, chroma_of, power_of, hypotenuse_of, ratio_of}
use Rattle.chroma.specs.Chroma.{primed_a, in_ten_millionths, primed_chroma}
use Rattle.hue.specs.Hue.{grey, quadrant_of, turned_x, turned_y, largest, reaches, tenth_of, rest_of, angle_of, hue_in, hue_of}
use Rattle.hue_difference.specs.HueDifference.{cross_of, later_in, second_later, first_later, far_of, opposite_of, no_hue_of}
use Rattle.hue_difference.specs.HueDifference.{hue_negative, dot_of, hue_size, hue_difference_of, mean_hue_of}
use Rattle.weighting.specs.Weighting.{term_of, hue_term_z, hue_term, lightness_offset, lightness_weight_at, lightness_weight}
use Rattle.weighting.specs.Weighting.{chroma_weight, hue_weight, hue_distance, rotation_sine, rotation}
use Rattle.places.specs.Places.{keep, hits, matches_of, every, rising}
use Rattle.sample.specs.Sample.{colour_refusal, colour_sample}
use Rattle.refusal.specs.Refusals.{first_refusal}
use Rattle.fixed_point.specs.Rounding.{half_of, nearest_of, fixed_size, fixed_of}
use Rattle.fixed_point.specs.Refusals.{reading_refusal, weights_refusal, tolerance_refusal}
use Rattle.fixed_point.specs.Samples.{sample_of, weights_of}
use Rattle.difference.specs.Parts.{weighted, part_of, parts_of, squared, sum_of, combined}
use Rattle.difference.specs.Pair.{sample_chroma, pair_ratio, primed_of, point_hue, pair_far, pair_hue_difference, pair_mean_hue}
use Rattle.difference.specs.Pair.{terms_of, lightness_difference, chroma_difference}
use Rattle.difference.specs.Cie76.{cie76_of}
use Rattle.difference.specs.Ciede2000.{parts00_of, terms00_of, figures_from, figures_of, ciede2000_of}
use Rattle.difference.specs.Verdict.{within_tolerance}
use Rattle.deck.specs.Deck.{columns_at, sizes_in, fixed_query, swatches_in, lightness_rises, deck_refusal, search_refusal}
use Rattle.deck.specs.Deck.{difference_at, match_at, match_list}
use Rattle.deck.specs.Answers.{found_of, contents_of}
use Rattle.proved_table.specs.Cases.{Case, table}

pub proved-table : map (λ (r : Case). r.gives) table ≡ map (λ (r : Case). r.says) table
unfolding table of_bits le keep hits matches_of every rising half_of nearest_of fixed_size fixed_of sample_of weights_of
    reading_refusal weights_refusal tolerance_refusal first_refusal colour_refusal colour_sample
    columns_at sizes_in fixed_query swatches_in lightness_rises deck_refusal search_refusal difference_at match_at match_list
    found_of contents_of
    next_root root_in root_of unit pi alternating series sine_entry interpolated
    sine_quarter sine_half sine_turn sine_of cosine_of
    terms exp_series gaussian_entry gaussian_between gaussian_of
    sum_of_squares chroma_of power_of hypotenuse_of ratio_of primed_a in_ten_millionths primed_chroma
    grey quadrant_of turned_x turned_y largest reaches tenth_of rest_of angle_of hue_in hue_of
    cross_of later_in second_later first_later far_of opposite_of no_hue_of hue_negative dot_of hue_size hue_difference_of mean_hue_of
    term_of hue_term_z hue_term lightness_offset lightness_weight_at lightness_weight chroma_weight hue_weight hue_distance
    rotation_sine rotation weighted part_of parts_of squared sum_of combined
    sample_chroma pair_ratio primed_of point_hue pair_far pair_hue_difference pair_mean_hue terms_of
    lightness_difference chroma_difference cie76_of parts00_of terms00_of figures_from figures_of ciede2000_of within_tolerance
proved-table = refl
