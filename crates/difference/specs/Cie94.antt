-- CIE94 in whole numbers of 10^-6: unprimed chroma, step 12 with R = 0. Assumes nothing.
use Rattle.std.specs.Prelude.{ℕ, ◌+◌, ◌*◌, ◌/◌}
use Rattle.isqrt.specs.Root.{root_of}
use Rattle.sample.specs.Sample.{Sample}
use Rattle.sample.specs.declared.FixedWeights.{FixedWeights}
use Rattle.difference.specs.Parts.{Parts, parts_of, combined}
use Rattle.difference.specs.Pair.{sample_chroma, plain_of, pair_hue_difference, lightness_difference, chroma_difference}
use Rattle.difference.specs.declared.cie94.Application.{Application}
use Rattle.difference.specs.declared.cie94.Application.TheVariants.{GraphicArts, Textiles}
use Rattle.difference.specs.declared.cie94.Comparison.{Comparison}
use Rattle.difference.specs.declared.cie94.Comparison.TheVariants.{WithStandard, WithoutStandard}

-- source 002's K1 and K2, in 1/1,000: 45 and 15, for textiles 48 and 14
abbrev pub chroma_constant : Application → ℕ
chroma_constant GraphicArts = 45
chroma_constant Textiles = 48

abbrev pub hue_constant : Application → ℕ
hue_constant GraphicArts = 15
hue_constant Textiles = 14

-- the chroma C that SC and SH use: C1 where sample 1 is a standard, else root(C1 × C2)
unfoldable pub weighting_chroma : Comparison → ℕ → ℕ → ℕ
weighting_chroma WithStandard c1 c2 = c1
weighting_chroma WithoutStandard c1 c2 = root_of (c1 * c2)

-- SC and SH, of their constant K: 10^9 + K C / 10
unfoldable pub weighting_function : ℕ → ℕ → ℕ
weighting_function k c = 1000000000 + k * c / 10

-- step 12's parts, SL being 10^9
unfoldable pub parts94_of : Application → Comparison → FixedWeights → Sample → Sample → Parts
parts94_of application comparison w s t =
    let c = weighting_chroma comparison (sample_chroma s) (sample_chroma t) in
    parts_of w (lightness_difference s t) (chroma_difference (plain_of s) (plain_of t)) (pair_hue_difference s t (plain_of s) (plain_of t))
    1000000000 (weighting_function (chroma_constant application) c) (weighting_function (hue_constant application) c)

-- step 12 with R = 0
unfoldable pub cie94_of : Application → Comparison → FixedWeights → Sample → Sample → ℕ
cie94_of application comparison w s t = combined (parts94_of application comparison w s t) 0
