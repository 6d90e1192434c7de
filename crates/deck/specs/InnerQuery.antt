-- What the prepared query of the code stands for, and when a query is refused. Assumes nothing.
use Rattle.std.specs.Prelude.{ℕ, Bool, [], ◌∷◌}
use Rattle.refusal.specs.Refusals.{first_refusal}
use Rattle.fixed_point.specs.Refusals.{reading_refusal, weights_refusal, tolerance_refusal}
use Rattle.sample.specs.Sample.{Sample}
use Rattle.difference.specs.Ciede2000.{ciede2000_of}
use Rattle.difference.specs.Verdict.{within_tolerance}
use Rattle.difference.specs.Inner.{prepared_sample}
use Rattle.deck.specs.Deck.{Query, FixedQuery}
use Rattle.deck.specs.declared.query.PreparedQuery.{PreparedQuery}

unfoldable pub query_of : PreparedQuery → FixedQuery
query_of q = record { weights = q.weights; reading = prepared_sample q.reading; tolerance = q.tolerance }

-- the first that applies of 1 to 5
unfoldable pub query_refusal : Query → ℕ
query_refusal q = first_refusal (reading_refusal q.reading ∷ weights_refusal q.weights ∷ tolerance_refusal q.tolerance ∷ [])

-- a sample matches by the verdict's rule, whatever deck it is of
unfoldable pub sample_matches : FixedQuery → Sample → Bool
sample_matches q s = within_tolerance (ciede2000_of q.weights s q.reading) q.tolerance
