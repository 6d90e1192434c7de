-- The definitions at numbers, by computation. Assumes nothing.
use mathlib.Core.Path.{◌≡◌, refl}
use mathlib.Core.List.{[], ◌∷◌, map}
use Rattle.isqrt.specs.Root.{next_root, root_in, root_of}
use Rattle.sine.specs.Sine.{unit, pi, alternating, series, sine_entry, interpolated, sine_quarter, sine_half, sine_turn, sine_of, cosine_of}
use Rattle.gaussian.specs.Gaussian.{terms, exp_series, gaussian_entry, gaussian_between, gaussian_of}
use Rattle.weighting.specs.Weighting.{term_of, hue_term_z, hue_term, lightness_offset, lightness_weight_at, lightness_weight}
use Rattle.weighting.specs.Weighting.{chroma_weight, hue_weight, hue_distance, rotation_sine, rotation}

-- at the mean hues 0, 126.8697, 275 and 300.012345 degrees
hue-terms : map hue_term (0 ∷ 126869700 ∷ 275000000 ∷ 300012345 ∷ []) ≡ 1320224588 ∷ 1219996204 ∷ 574542760 ∷ 453044425 ∷ []
unfolding unit pi alternating series sine_entry interpolated sine_quarter sine_half sine_turn sine_of cosine_of term_of hue_term_z hue_term
hue-terms = refl

-- of the proved table: greys of L 50 and 40
lightness_of-greys : lightness_weight 500000 400000 ≡ 1055901699
unfolding root_of root_in next_root lightness_weight lightness_weight_at lightness_offset
lightness_of-greys = refl

-- a mean lightness above 50, and the least one
lightness-above : lightness_weight 1000000 300000 ≡ 1215620841
unfolding root_of root_in next_root lightness_weight lightness_weight_at lightness_offset
lightness-above = refl

lightness_of-blacks : lightness_weight 0 0 ≡ 1747017881
unfolding root_of root_in next_root lightness_weight lightness_weight_at lightness_offset
lightness_of-blacks = refl

-- a chroma sum of 123.4567891, whose remainders are dropped
chroma : chroma_weight 1234567891 ≡ 3777777754
unfolding chroma_weight
chroma = refl

hue : hue_weight 1234567891 1219996204 ≡ 2129626105
unfolding hue_weight
hue = refl

-- 275 degrees, where the sine is that of 60 degrees
rotation-at-275 : rotation 1000000000 275000000 ≡ 1732050808
unfolding unit pi alternating series sine_entry interpolated sine_quarter sine_half sine_turn sine_of terms exp_series
    gaussian_entry gaussian_between gaussian_of hue_distance rotation_sine rotation
rotation-at-275 = refl

rotation-between-entries : rotation 123456789 300012345 ≡ 92699239
unfolding unit pi alternating series sine_entry interpolated sine_quarter sine_half sine_turn sine_of terms exp_series
    gaussian_entry gaussian_between gaussian_of hue_distance rotation_sine rotation
rotation-between-entries = refl

-- 20 degrees are 255 from 275 by the plain difference; round the circle they would be 105, and the term would not be 0
rotation-not-round-the-circle : rotation 1000000000 20000000 ≡ 0
unfolding gaussian_of unit pi alternating series sine_entry interpolated sine_quarter sine_half sine_turn sine_of hue_distance rotation_sine rotation
rotation-not-round-the-circle = refl
