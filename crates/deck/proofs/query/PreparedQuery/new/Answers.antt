-- `deck::query::PreparedQuery::new` meets its contract: the tests in their order. Assumes nothing.
use mathlib.Core.Path.{◌∙◌}
use Rattle.std.proofs.lemmas.Result.{err_from_is_err_and}
use Rattle.deck.specs.Deck.{asked, fixed_query}
use Rattle.deck.specs.InnerQuery.{query_of}
use Rattle.deck.proofs.DeckLaws.{by-reading, by-weights, by-tolerance, query-accepted}
use Rattle.deck.proofs.query.PreparedQuery.new.Goals as goal

pub returns-in_err-reading-clause-refusal : goal.returns-in_err-reading-clause-refusal
returns-in_err-reading-clause-refusal c =
    let p = err_from_is_err_and c.from_residual.result c.from_residual.ensures.1 in
    rw (p.1, p.2) (by-reading (asked c.args.reading c.args.weights c.args.tolerance) _ c.in_err-reading.ensures.refusal)

pub returns-in_err-weights-clause-refusal : goal.returns-in_err-weights-clause-refusal
returns-in_err-weights-clause-refusal c =
    let p = err_from_is_err_and c.from_residual-in_err-weights.result c.from_residual-in_err-weights.ensures.1 in
    rw (p.1, p.2)
    (by-weights (asked c.args.reading c.args.weights c.args.tolerance) _ c.in_ok-reading.ensures.refusal c.in_err-weights.ensures.refusal)

pub returns-in_err-tolerance-clause-refusal : goal.returns-in_err-tolerance-clause-refusal
returns-in_err-tolerance-clause-refusal c =
    let p = err_from_is_err_and c.from_residual-in_err-tolerance.result c.from_residual-in_err-tolerance.ensures.1 in
    rw (p.1, p.2)
    (by-tolerance (asked c.args.reading c.args.weights c.args.tolerance) _ c.in_ok-reading.ensures.refusal
    c.in_ok-weights.ensures.refusal c.in_err-tolerance.ensures.refusal)

pub returns-clause-refusal : goal.returns-clause-refusal
returns-clause-refusal c =
    query-accepted (asked c.args.reading c.args.weights c.args.tolerance) c.in_ok-reading.ensures.refusal
    c.in_ok-weights.ensures.refusal c.in_ok-tolerance.ensures.refusal

pub returns-clause-query : goal.returns-clause-query
unfolding fixed_query query_of
returns-clause-query c =
    let reading = c.of.ensures ∙ c.in_ok-reading.ensures.sample in
    λ i. record { weights = c.in_ok-weights.ensures.weights i; reading = reading i; tolerance = c.in_ok-tolerance.ensures.tolerance i }
