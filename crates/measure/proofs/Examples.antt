-- Many pairs, by computation. Assumes nothing.
use mathlib.Core.Path.{◌≡◌, refl}
use mathlib.Core.Bool.{false}
use mathlib.Core.List.{List, [], ◌∷◌}
use Prim.Native.Nat.{ℕ}
use lib.IntN.{pos}
use lib.Ieee.{Float, nan, fin, le}
use Rattle.places.specs.Places.{column_of}
use Rattle.refusal.specs.Refusals.{first_refusal, given}
use Rattle.fixed_point.specs.Refusals.{reading_refusal, weights_refusal}
use Rattle.fixed_point.specs.declared.Weights.{Weights}
use Rattle.measure.specs.Answers.{refusal_of, difference_of}
use Rattle.measure.specs.Calls.{weighted_refusal}
use Rattle.measure.specs.Many.{reading_at, pair_count, pair_answer}

-- the list that is too short decides: the standards, the samples, the differences, the refusals; two floats are no colour
counts : (pair_count 8 9 3 3 ≡ 2) × (pair_count 9 3 3 3 ≡ 1) × (pair_count 9 9 2 3 ≡ 2) × (pair_count 9 9 3 1 ≡ 1) × (pair_count 2 9 3 3 ≡ 0)
unfolding pair_count
counts = (refl, refl, refl, refl, refl)

abbrev whole : ℕ → Float
whole n = fin false n (pos 0)

-- (50, 1, 2), (101, 3, 4), (50, 5, 6) and (50, 7, 8), (50, not a number, 10), (50, 200, 12)
abbrev standards : List Float
standards = whole 50 ∷ whole 1 ∷ whole 2 ∷ whole 101 ∷ whole 3 ∷ whole 4 ∷ whole 50 ∷ whole 5 ∷ whole 6 ∷ []

abbrev samples : List Float
samples = whole 50 ∷ whole 7 ∷ whole 8 ∷ whole 50 ∷ nan ∷ whole 10 ∷ whole 50 ∷ whole 200 ∷ whole 12 ∷ []

second-colour : reading_at standards 1 ≡ record { l = whole 101; a = whole 3; b = whole 4 }
unfolding reading_at
second-colour = refl

abbrev weighing : ℕ → Weights
weighing k = record { l = whole k; c = whole 1; h = whole 1 }

-- each pair has its own refusal; the weights' stands after those of the samples
refusals : (column_of (λ k. refusal_of (pair_answer standards samples (weighing 1) k)) 3 ≡ 0 ∷ 2 ∷ 3 ∷ [])
    × (column_of (λ k. refusal_of (pair_answer standards samples (weighing 11) k)) 3 ≡ 4 ∷ 2 ∷ 3 ∷ [])
unfolding column_of pair_answer reading_at given weighted_refusal first_refusal reading_refusal weights_refusal le
refusals = (refl, refl)

-- a refused pair's difference is 0
no_difference : difference_of (pair_answer standards samples (weighing 1) 1) ≡ whole 0
unfolding pair_answer reading_at given weighted_refusal first_refusal reading_refusal weights_refusal le
no_difference = refl
