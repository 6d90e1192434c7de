-- `deck::columns::Columns::gather` meets its contract: the scratch list begins with the matches from the start of the window
-- up to k. Assumes nothing.
use mathlib.Core.Path.{◌≡◌, sym, ap, ◌∙◌}
use native.Mathlib.Omega.{arith}
use lib.ListN.{length, length-set}
use Rattle.places.proofs.Gathering.{gathered_none, gathered-hit, gathered-miss}
use Rattle.deck.proofs.DeckLaws.{columns-sizes}
use Rattle.deck.specs.Deck.{match_at, difference_at}
use Rattle.deck.specs.InnerQuery.{query_of, sample_matches}
use Rattle.deck.proofs.columns.Columns.gather.Goals as goal
use Rattle.deck.proofs.columns.Columns.gather.Goals.{then-matches, else-matches}

pub loop-k-init : goal.loop-k-init
loop-k-init c = (c.requires.found_len, gathered_none _ _ _)

pub loop-k-preserved : goal.loop-k-preserved
unfolding match_at difference_at sample_matches
loop-k-preserved c =
    let test = sym (c.matches.ensures ∙ ap (sample_matches (query_of c.args.query)) c.swatch.ensures) in
    elim c.if-matches.branch [
      | then-matches w ↦
          let hit = gathered-hit _ _ _ _ _ c.loop-k.invariant.1 (test ∙ w.if-matches.true) (omega (arith, (columns-sizes c.args.self).most)) in
          (ap length w.found-is ∙ simp length-set c.loop-k.invariant.0, rw (w.found-is, w.n-is) hit)
      | else-matches w ↦
          (ap length w.found-is ∙ c.loop-k.invariant.0, rw (w.found-is, w.n-is) (gathered-miss _ _ _ _ _ c.loop-k.invariant.1 (test ∙ w.if-matches.false)))
    ]

pub returns : goal.returns
returns c =
    let e : c.loop-k.k ≡ c.args.w.to = omega arith in
    record { size = c.loop-k.invariant.0; most = omega (arith, (columns-sizes c.args.self).most); is = rw e at c.loop-k.invariant.1.is }

pub overflow_cast-found : goal.overflow_cast-found
overflow_cast-found c = omega (arith, (columns-sizes c.args.self).most)

pub bounds-found-n : goal.bounds-found-n
bounds-found-n c = omega (arith, (columns-sizes c.args.self).most)
