-- The deck that the columns of the code hold. Assumes nothing.
use Rattle.deck.specs.Deck.{Deck, columns}
use Rattle.deck.specs.declared.columns.Columns.{Columns}

abbrev pub deck_in : Columns → Deck
deck_in d = columns d.slices.l.now d.slices.a.now d.slices.b.now
