-- `deck::query::PreparedQuery::reach` meets its contract: the product is at most 700,000,700,000. Assumes nothing.
use mathlib.Core.Path.{refl}
use native.Mathlib.Omega.{arith}
use Rattle.deck.specs.InnerQuery.{query_of}
use Rattle.deck.proofs.LightnessWindow.{reach-most}
use Rattle.deck.proofs.query.PreparedQuery.reach.Goals as goal

pub returns : goal.returns
unfolding query_of
returns c = (refl, omega (arith, reach-most c.args.self.weights.l c.args.self.tolerance c.args.self.weights_in.l.high c.args.self.tolerance_in))
