-- A deck of swatches, which decks and searches are refused, and which swatches match a reading. Only `columns` says how
-- a deck is kept. L, a, b, weights and tolerances are in 1/10,000, differences in 10^-6.
use Rattle.std.specs.Prelude.{ℕ, Bool, not, ◌&&◌, ◌||◌, cond, List, [], ◌∷◌, leb, eqb, Float, ℤ, length}
use Rattle.places.specs.Places.{at, every, rising, matches_of}
use Rattle.sample.specs.Sample.{Sample, Colour, colour_refusal, colour_sample}
use Rattle.refusal.specs.Refusals.{first_refusal}
use Rattle.sample.specs.declared.FixedWeights.{FixedWeights}
use Rattle.fixed_point.specs.Refusals.{reading_refusal, weights_refusal, tolerance_refusal}
use Rattle.fixed_point.specs.Rounding.{fixed_size}
use Rattle.fixed_point.specs.Samples.{sample_of, weights_of}
use Rattle.fixed_point.specs.declared.Reading.{Reading}
use Rattle.fixed_point.specs.declared.Weights.{Weights}
use Rattle.difference.specs.Ciede2000.{ciede2000_of}
use Rattle.difference.specs.Verdict.{within_tolerance}

-- ---- a deck

-- the most swatches of a deck
abbrev pub most_swatches : ℕ
most_swatches = 4096

-- whether the size is in order, the number of swatches, and the colour at each place
pub record Deck : Type 0 where
  pub sized : Bool
  pub count : ℕ
  pub colour : ℕ → Colour

-- the columns are of one length, of at most 4,096
unfoldable pub sizes_in : List ℤ → List ℤ → List ℤ → Bool
sizes_in l a b = eqb (length a) (length l) && (eqb (length b) (length l) && leb (length l) most_swatches)

-- the colour at a place of three columns
unfoldable pub columns_at : List ℤ → List ℤ → List ℤ → ℕ → Colour
columns_at l a b k = record { l = at l k; a = at a k; b = at b k }

-- a deck that is kept as three columns
abbrev pub columns : List ℤ → List ℤ → List ℤ → Deck
columns l a b = record { sized = sizes_in l a b; count = length l; colour = columns_at l a b }

-- ---- what a call asks of a deck

pub record Query : Type 0 where
  pub reading : Reading
  pub weights : Weights
  pub tolerance : Float

abbrev pub asked : Reading → Weights → Float → Query
asked reading weights tolerance = record { reading = reading; weights = weights; tolerance = tolerance }

-- the query in 1/10,000
pub record FixedQuery : Type 0 where
  pub weights : FixedWeights
  pub reading : Sample
  pub tolerance : ℕ

unfoldable pub fixed_query : Query → FixedQuery
fixed_query q =
    record { weights = weights_of q.weights; reading = sample_of q.reading; tolerance = fixed_size q.tolerance }

-- ---- refusals

-- each swatch is within the limits
unfoldable pub swatches_in : Deck → Bool
swatches_in d = every (λ k. eqb (colour_refusal (d.colour k)) 0) d.count

-- lightness does not fall
unfoldable pub lightness_rises : Deck → Bool
lightness_rises d = rising (λ k. (d.colour k).l) d.count

-- 6: the deck's size; 7: a swatch is outside the limits, or lightness falls
unfoldable pub deck_refusal : Deck → ℕ
deck_refusal d = cond (not d.sized) 6 (cond (not (swatches_in d) || not (lightness_rises d)) 7 0)

-- the first that applies of 1 to 7
unfoldable pub search_refusal : Query → Deck → ℕ
search_refusal q d =
    first_refusal
    (reading_refusal q.reading ∷ weights_refusal q.weights ∷ tolerance_refusal q.tolerance ∷ deck_refusal d ∷ [])

-- ---- matches

-- the difference at a place: swatches are sample 1, the reading is sample 2
unfoldable pub difference_at : FixedQuery → Deck → ℕ → ℕ
difference_at q d k = ciede2000_of q.weights (colour_sample (d.colour k)) q.reading

-- a place matches by the verdict's rule
unfoldable pub match_at : FixedQuery → Deck → ℕ → Bool
match_at q d k = within_tolerance (difference_at q d k) q.tolerance

-- the places that match
unfoldable pub match_list : FixedQuery → Deck → List ℕ
match_list q d = matches_of (match_at q d) d.count
