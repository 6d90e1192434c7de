-- Many pairs in one call: two lists of colours, three floats to a colour, and two lists for the answers. Assumes nothing.
use Rattle.std.specs.Prelude.{◌≡◌, List, ◌++◌, ℕ, ◌+◌, ◌*◌, ◌/◌, min, Float, Result, length, get_or, drop}
use Rattle.std.specs.Float.{nan}
use Rattle.places.specs.Places.{column_of}
use Rattle.fixed_point.specs.declared.Reading.{Reading}
use Rattle.fixed_point.specs.declared.Weights.{Weights}
use Rattle.measure.specs.Answers.{refusal_of, difference_of}
use Rattle.measure.specs.Calls.{ciede2000_answer}

-- the colour k of a list of floats: L, a and b one after the other
unfoldable pub reading_at : List Float → ℕ → Reading
reading_at xs k = record { l = get_or xs (3 * k) nan; a = get_or xs (3 * k + 1) nan; b = get_or xs (3 * k + 2) nan }

-- the pairs that every list holds whole, from the lengths of the standards, the samples, the differences and the refusals
unfoldable pub pair_count : ℕ → ℕ → ℕ → ℕ → ℕ
pair_count standards samples differences refusals = min (min (standards / 3) (samples / 3)) (min differences refusals)

-- what pair k is answered, as a call of its own is
unfoldable pub pair_answer : List Float → List Float → Weights → ℕ → Result Float ℕ
pair_answer standards samples w k = ciede2000_answer (reading_at standards k) (reading_at samples k) w

-- the two lists that are lent for the answers
pub record Results : Type 0 where
  pub differences : List Float
  pub refusals : List ℕ

abbrev pub results : List Float → List ℕ → Results
results differences refusals = record { differences = differences; refusals = refusals }

-- the lent lists before and after: the answer of each of the n pairs in its place, and past them what was there before
pub record Answered (answer : ℕ → Result Float ℕ) (n : ℕ) (old new : Results) : Type 0 where
  pub differences : new.differences ≡ column_of (λ k. difference_of (answer k)) n ++ drop n old.differences
  pub refusals : new.refusals ≡ column_of (λ k. refusal_of (answer k)) n ++ drop n old.refusals

-- the promise: n is the number of pairs
pub record Compares (standards samples : List Float) (w : Weights) (old new : Results) (n : ℕ) : Type 0 where
  pub pairs : n ≡ pair_count (length standards) (length samples) (length old.differences) (length old.refusals)
  pub answered : Answered (pair_answer standards samples w) n old new
