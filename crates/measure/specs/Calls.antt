-- The refusal of each public call: the first that applies, of sample 1, sample 2, the weights and the tolerance, in this order.
-- And what the call for CIEDE2000 answers. Assumes nothing.
use Rattle.std.specs.Prelude.{ℕ, [], ◌∷◌, Float, Result}
use Rattle.fixed_point.specs.Refusals.{reading_refusal, weights_refusal, tolerance_refusal}
use Rattle.refusal.specs.Refusals.{first_refusal}
use Rattle.fixed_point.specs.Samples.{sample_of, weights_of}
use Rattle.difference.specs.Ciede2000.{ciede2000_of}
use Rattle.measure.specs.Answers.{answer_of}
use Rattle.fixed_point.specs.declared.Reading.{Reading}
use Rattle.fixed_point.specs.declared.Weights.{Weights}

unfoldable pub pair_refusal : Reading → Reading → ℕ
pair_refusal s t = first_refusal (reading_refusal s ∷ reading_refusal t ∷ [])

unfoldable pub weighted_refusal : Reading → Reading → Weights → ℕ
weighted_refusal s t w = first_refusal (reading_refusal s ∷ reading_refusal t ∷ weights_refusal w ∷ [])

unfoldable pub verdict_refusal : Reading → Reading → Weights → Float → ℕ
verdict_refusal s t w tolerance =
    first_refusal (reading_refusal s ∷ reading_refusal t ∷ weights_refusal w ∷ tolerance_refusal tolerance ∷ [])

-- CIEDE2000 of two readings, or the refusal
abbrev pub ciede2000_answer : Reading → Reading → Weights → Result Float ℕ
ciede2000_answer s t w = answer_of (weighted_refusal s t w) (ciede2000_of (weights_of w) (sample_of s) (sample_of t))
