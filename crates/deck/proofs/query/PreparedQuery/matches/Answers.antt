-- `deck::query::PreparedQuery::matches` meets its contract: the verdict's rule of the difference, and no match beyond the radius.
-- Assumes nothing.
use mathlib.Core.Path.{sym, ap, ◌∙◌}
use Prim.Native.Nat.{ℕ}
use Rattle.sample.specs.Sample.{Sample}
use Rattle.difference.specs.Inner.{prepared_sample}
use Rattle.difference.specs.Ciede2000.{ciede2000_of}
use Rattle.difference.specs.Verdict.{within_tolerance}
use Rattle.deck.specs.InnerQuery.{query_of, sample_matches}
use Rattle.deck.proofs.FarSwatch.{beyond-fails}
use Rattle.deck.proofs.query.PreparedQuery.matches.Goals as goal

pub returns-then-beyond_radius : goal.returns-then-beyond_radius
unfolding query_of
returns-then-beyond_radius c =
    let q = c.args.self in
    sym (beyond-fails (query_of q) q.near c.args.swatch q.weights_in q.near_is (sym c.beyond_radius.ensures ∙ c.if-beyond_radius.true))

pub returns : goal.returns
unfolding sample_matches query_of
returns c =
    let q = c.args.self in
    let is = c.ciede2000-millionths.ensures.is ∙ ap (λ (s : Sample). ciede2000_of q.weights s (prepared_sample q.reading)) c.of.ensures in
    c.within_tolerance.ensures ∙ ap (λ (n : ℕ). within_tolerance n q.tolerance) is
