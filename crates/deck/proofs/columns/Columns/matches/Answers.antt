-- `deck::columns::Columns::matches` meets its contract: the matches of the window are all the matches. Assumes nothing.
use Rattle.difference.proofs.Points.{prepared-in}
use Rattle.deck.specs.Deck.{columns_at}
use Rattle.deck.specs.InnerQuery.{query_of}
use Rattle.deck.proofs.LightnessWindow.{window-order, window-matches}
use Rattle.deck.proofs.DeckLaws.{deck-valid}
use Rattle.deck.proofs.columns.Columns.matches.Goals as goal

pub lightness_window-w-requires-clause-rises : goal.lightness_window-w-requires-clause-rises
unfolding columns_at
lightness_window-w-requires-clause-rises c = (deck-valid _ c.args.self.valid).rises

pub gather-requires : goal.gather-requires
unfolding columns_at query_of
gather-requires c =
    let q = c.args.query in
    let order =
    window-order (query_of q) q.weights_in (prepared-in q.reading) _ (deck-valid _ c.args.self.valid) _ c.reach.ensures.0 _ _
    (rw c.lightness.ensures.0 at c.lightness_window-w.ensures.from) (rw c.lightness.ensures.0 at c.lightness_window-w.ensures.to) in
    record { window = (order, c.lightness_window-w.ensures.to.size); found_len = c.requires }

pub returns : goal.returns
unfolding columns_at query_of
returns c =
    let q = c.args.query in
    rw
    (window-matches (query_of q) q.weights_in (prepared-in q.reading) _ (deck-valid _ c.args.self.valid) _ c.reach.ensures.0 _ _
    (rw c.lightness.ensures.0 at c.lightness_window-w.ensures.from) (rw c.lightness.ensures.0 at c.lightness_window-w.ensures.to))
    c.gather.ensures
