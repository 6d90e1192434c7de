-- `deck::swatches::check_swatches` meets its contract: a refusal for each return. Assumes nothing.
use mathlib.Core.Path.{refl, sym, ◌∙◌}
use mathlib.Core.Bool.{true, false}
use Rattle.deck.proofs.DeckLaws.{refusal_is}
use Rattle.deck.proofs.Orderly.{orderly-refusal}
use Rattle.deck.proofs.swatches.check_swatches.Goals as goal

pub returns-then-not-is_sized : goal.returns-then-not-is_sized
returns-then-not-is_sized g c = refusal_is _ false _ _ (sym c.is_sized.ensures ∙ c.if-not-is_sized.true) refl refl

pub returns-then-not-are_in_order : goal.returns-then-not-are_in_order
returns-then-not-are_in_order g c =
    orderly-refusal _ false (sym c.is_sized.ensures ∙ c.if-not-is_sized.false)
    (sym c.are_in_order.ensures ∙ c.if-not-are_in_order.true)

pub returns : goal.returns
returns g c =
    orderly-refusal _ true (sym c.is_sized.ensures ∙ c.if-not-is_sized.false)
    (sym c.are_in_order.ensures ∙ c.if-not-are_in_order.false)
