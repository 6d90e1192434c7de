-- `deck::columns::Columns::swatch` meets its contract: a swatch of a deck that is not refused is within the limits.
-- Assumes nothing.
use Rattle.deck.proofs.DeckLaws.{deck-valid}
use Rattle.deck.proofs.columns.Columns.swatch.Goals as goal

pub colour-requires-clause-sized : goal.colour-requires-clause-sized
colour-requires-clause-sized c = (deck-valid _ c.args.self.valid).sized

pub sample-requires : goal.sample-requires
sample-requires c = rw c.colour.ensures ((deck-valid _ c.args.self.valid).colours _ c.requires)
