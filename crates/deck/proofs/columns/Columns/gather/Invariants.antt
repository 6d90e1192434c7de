-- Of `deck::columns::Columns::gather`: the scratch list begins with the matches from the start of the window up to k.
-- Assumes nothing.
use mathlib.Core.Path.{◌≡◌}
use lib.ListN.{length}
use Rattle.places.proofs.Gathering.{Gathered}
use Rattle.deck.specs.Deck.{most_swatches, match_at}
use Rattle.deck.specs.InnerQuery.{query_of}
use Rattle.deck.specs.InnerColumns.{deck_in}
use Rattle.deck.proofs.columns.Columns.gather.Given as goal

abbrev pub invariant-loop-k : goal.invariant-loop-k
invariant-loop-k l = (length l.found ≡ most_swatches)
    × Gathered (match_at (query_of l.query) (deck_in l.self)) l.fn.w.from l.k l.n l.found
