-- The swatches of a text that is not refused make a valid deck, in order. Assumes nothing.
use mathlib.Core.Path.{◌≡◌}
use mathlib.Core.List.{List}
use Prim.Native.Nat.{ℕ}
use native.Mathlib.Omega.{arith}
use lib.ListN.{length}
use borrow.Author.Tests.{leb-true}
use Rattle.sorting.proofs.OrderLaws.{order_is}
use Rattle.refusal.proofs.RefusalLaws.{none_of}
use Rattle.deck.specs.Deck.{deck_refusal}
use Rattle.swatches.specs.Swatches.{lightness_at, deck_of}
use Rattle.swatches.proofs.ValidLaws.{sorted-valid}
use Rattle.lab_text.specs.Text.{rows_of, size_refusal, limits_refusal, text_refusal, swatches_of}
use Rattle.lab_text.specs.Imports.{InDeckOrder}
use Rattle.lab_text.proofs.ReadLaws.{none_true}

pub text-valid : (text : List ℕ) → text_refusal text ≡ 0 → deck_refusal (deck_of (swatches_of text)) ≡ 0
unfolding text_refusal size_refusal limits_refusal swatches_of
text-valid text e =
    let few = none_of _ _ (none_of _ _ (none_of _ _ (none_of _ _ e).1).1).1 in
    let ok = none_of _ _ few.1 in
    sorted-valid (rows_of text) (leb-true _ _ (none_true _ (λ z. absurd (omega arith)) few.0))
    (none_true _ (λ z. absurd (omega arith)) ok.0)

pub text-ordered : (text : List ℕ) → InDeckOrder text
text-ordered text = order_is (lightness_at (rows_of text)) (length (rows_of text))
