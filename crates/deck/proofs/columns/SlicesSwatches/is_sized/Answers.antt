-- The columns of a deck are sized as the deck is. Assumes nothing.
use mathlib.Core.Path.{refl}
use Rattle.deck.specs.Deck.{sizes_in}
use Rattle.deck.proofs.columns.SlicesSwatches.is_sized.Goals as goal

pub returns : goal.returns
unfolding sizes_in
returns c = refl
