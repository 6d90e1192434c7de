-- `deck::search` meets its contract: the answer and the contents of the list, from which the rest follows. A refused query
-- needs no answer here: `refused_steps` are tried at it. Assumes nothing.
use mathlib.Core.Path.{◌≡◌, sym, ◌∙◌}
use native.Mathlib.Omega.{arith}
use lib.ListN.{take}
use Rattle.std.proofs.lemmas.Result.{err_from_is_err_and}
use Rattle.refusal.specs.Refusals.{first_refusal}
use Rattle.refusal.proofs.RefusalLaws.{not-zero}
use Rattle.deck.specs.Deck.{asked, columns, deck_refusal, search_refusal, fixed_query, match_list}
use Rattle.deck.specs.InnerQuery.{query_refusal}
use Rattle.deck.proofs.DeckLaws.{first-of-deck, answers-refused}
use Rattle.deck.proofs.Searching.{searches}
use Rattle.deck.proofs.search.Goals as goal

pub returns-in_err-deck-clause-searches : goal.returns-in_err-deck-clause-searches
unfolding query_refusal first_refusal
returns-in_err-deck-clause-searches c =
    let q = asked c.args.reading c.args.weights c.args.tolerance in
    let d = columns c.args.l.now c.args.a.now c.args.b.now in
    let query : query_refusal q ≡ 0 = grind arith in
    let p = err_from_is_err_and c.from_residual-in_err-deck.result c.from_residual-in_err-deck.ensures.1 in
    let is = c.in_err-deck.ensures.refusal ∙ sym (first-of-deck q d query) in
    rw (p.1, p.2) (searches q d _ _ _ (answers-refused _ c.args.places.now _ _ is (not-zero _)))

pub returns-clause-searches : goal.returns-clause-searches
returns-clause-searches c =
    let q = asked c.args.reading c.args.weights c.args.tolerance in
    let d = columns c.args.l.now c.args.a.now c.args.b.now in
    let query : query_refusal q ≡ 0 = grind arith in
    let deck : deck_refusal d ≡ 0 = grind arith in
    let accepted : search_refusal q d ≡ 0 = first-of-deck q d query ∙ deck in
    let matched : take c.matches-n.result c.matches-n.new.found ≡ match_list (fixed_query q) d = grind arith in
    searches q d _ _ _ (rw (accepted, ← matched) (c.answer.ensures.answer, c.answer.ensures.contents))
