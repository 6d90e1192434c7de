-- `deck::query::PreparedQuery::lightness` meets its contract. Assumes nothing.
use mathlib.Core.Path.{refl}
use Rattle.difference.specs.Inner.{prepared_sample}
use Rattle.deck.specs.InnerQuery.{query_of}
use Rattle.deck.proofs.query.PreparedQuery.lightness.Goals as goal

pub returns : goal.returns
unfolding query_of prepared_sample
returns c = (refl, c.args.self.reading.light)
