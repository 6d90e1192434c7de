-- Decks that are refused and decks that are not, by computation; what a search finds is in the proved table.
-- Assumes nothing.
use mathlib.Core.Path.{◌≡◌, refl}
use mathlib.Core.Bool.{false}
use mathlib.Core.List.{[], ◌∷◌}
use Prim.Native.Nat.{ℕ}
use lib.Ieee.{Float, fin, le}
use lib.IntN.{pos, neg_ℤ}
use Rattle.places.specs.Places.{every, rising}
use Rattle.sample.specs.Sample.{colour_refusal}
use Rattle.refusal.specs.Refusals.{first_refusal}
use Rattle.fixed_point.specs.Refusals.{reading_refusal, weights_refusal, tolerance_refusal}
use Rattle.fixed_point.specs.declared.Reading.{Reading}
use Rattle.fixed_point.specs.declared.Weights.{Weights}
use Rattle.deck.specs.Deck.{asked, columns, columns_at, sizes_in, swatches_in, lightness_rises}
use Rattle.deck.specs.Deck.{deck_refusal, search_refusal}

-- an empty deck; columns of unequal length; a swatch outside the limits; lightness that falls; the limits themselves
pub decks :
    deck_refusal (columns [] [] []) ∷
    deck_refusal (columns (pos 0 ∷ []) [] []) ∷
    deck_refusal (columns (pos 1000001 ∷ []) (pos 0 ∷ []) (pos 0 ∷ [])) ∷
    deck_refusal (columns (pos 1 ∷ pos 0 ∷ []) (pos 0 ∷ pos 0 ∷ []) (pos 0 ∷ pos 0 ∷ [])) ∷
    deck_refusal (columns (pos 0 ∷ pos 1000000 ∷ []) (neg_ℤ (pos 1280000) ∷ pos 0 ∷ []) (pos 1280000 ∷ pos 0 ∷ [])) ∷
    [] ≡ 0 ∷ 6 ∷ 7 ∷ 7 ∷ 0 ∷ []
unfolding every rising columns_at colour_refusal sizes_in swatches_in lightness_rises deck_refusal
decks = refl

-- a whole number as a float
abbrev whole : ℕ → Float
whole n = fin false n (pos 0)

-- the tolerance before the deck
pub first-refusal :
    let reading : Reading = record { l = whole 50; a = whole 0; b = whole 0 } in
    let weights : Weights = record { l = whole 1; c = whole 1; h = whole 1 } in
    search_refusal (asked reading weights (whole 101)) (columns (pos 1 ∷ []) [] []) ≡ 5
unfolding le reading_refusal weights_refusal tolerance_refusal first_refusal search_refusal
first-refusal = refl
