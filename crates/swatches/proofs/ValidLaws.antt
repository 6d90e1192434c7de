-- Swatches within the limits, put in the order of their lightness, make a valid deck. Assumes nothing.
use mathlib.Core.Path.{◌≡◌, sym, ap, ap₂, ◌∙◌}
use mathlib.Core.Bool.{Bool, true, and-eq-true_iff}
use mathlib.Core.List.{List, [], ◌∷◌}
use Prim.Native.Nat.{ℕ, zero, suc, ◌≤◌, ◌<◌}
use native.Mathlib.Nat.{not-suc-le-zero, le_of_suc-le-suc}
use native.Mathlib.Omega.{arith}
use lib.Dec.{eqb}
use lib.IntN.{pos}
use lib.Signed.{le_z}
use lib.ListN.{length, get_or, length-map, get_or-map}
use borrow.Author.Tests.{le-leb, eqb-true}
use Rattle.std.proofs.lemmas.List as lists
use Rattle.places.specs.Places.{every, rising}
use Rattle.places.proofs.PlacesLaws.{every_of}
use Rattle.sorting.specs.Order.{IsStableOrder}
use Rattle.sorting.proofs.OrderLaws.{order_is}
use Rattle.sample.specs.Sample.{Colour, colour_refusal, colour_sample}
use Rattle.sample.proofs.SampleLaws.{accepted-lightness}
use Rattle.deck.specs.Deck.{most_swatches, columns_at, swatches_in, lightness_rises, deck_refusal}
use Rattle.deck.proofs.DeckLaws.{sizes-in, refusal_is}
use Rattle.swatches.specs.Swatches.{colour_in, is_within, no_swatch, swatch_at, all, lightnesses, green_reds, blue_yellows, deck_of}
use Rattle.swatches.specs.Swatches.{lightness_at, lightness_order, by_lightness}
use Rattle.swatches.specs.declared.Swatch.{Swatch}
use Rattle.swatches.proofs.SwatchLaws.{by_lightness-length}

-- ---- lists

all-at : (f : Swatch → Bool) (ss : List Swatch) (k : ℕ) → all f ss ≡ true → k < length ss → f (swatch_at ss k) ≡ true
unfolding all
all-at f [] k e h = absurd (not-suc-le-zero h)
all-at f (s ∷ ss) zero e h = ((and-eq-true_iff (f s) (all f ss)).0 e).0
all-at f (s ∷ ss) (suc k) e h = all-at f ss k ((and-eq-true_iff (f s) (all f ss)).0 e).1 (le_of_suc-le-suc h)

-- ---- the deck of some swatches

pub deck-colour : (ss : List Swatch) (k : ℕ) → (deck_of ss).colour k ≡ colour_in (swatch_at ss k)
unfolding columns_at
deck-colour ss k =
    λ i. record {
      l = get_or-map (λ (s : Swatch). s.l) ss k no_swatch i;
      a = get_or-map (λ (s : Swatch). s.a) ss k no_swatch i;
      b = get_or-map (λ (s : Swatch). s.b) ss k no_swatch i;
    }

module _ (rows : List Swatch) (most : length rows ≤ most_swatches) (within : all is_within rows ≡ true) where
  abbrev n : ℕ
  n = length rows

  abbrev order : List ℕ
  order = lightness_order rows

  abbrev ss : List Swatch
  ss = by_lightness rows

  stands : IsStableOrder (lightness_at rows) n order
  stands = order_is (lightness_at rows) n

  size : length ss ≡ n
  size = by_lightness-length rows

  -- what stands at a place is a row, within the limits
  swatch-is : (k : ℕ) → k < n → (deck_of ss).colour k ≡ colour_in (swatch_at rows (get_or order k 0))
  unfolding by_lightness
  swatch-is k h = deck-colour ss k ∙ ap colour_in (lists.get_or-map (swatch_at rows) order k 0 no_swatch (omega (arith, stands.size)))

  row_within : (k : ℕ) → k < n → colour_refusal (colour_in (swatch_at rows (get_or order k 0))) ≡ 0
  row_within k h = eqb-true _ 0 (all-at is_within rows (get_or order k 0) within (stands.inside k h))

  lightness-is : (k : ℕ) → k < n → ((deck_of ss).colour k).l ≡ pos (lightness_at rows (get_or order k 0))
  unfolding colour_sample
  lightness-is k h = ap (λ (c : Colour). c.l) (swatch-is k h) ∙ accepted-lightness _ (row_within k h)

  rises-at : (i j : ℕ) → i < j → j < n → le_z ((deck_of ss).colour i).l ((deck_of ss).colour j).l ≡ true
  rises-at i j h l =
      ap₂ le_z (lightness-is i (omega arith)) (lightness-is j l) ∙ le-leb _ _ (stands.rises i j h l)

  count_is : length (lightnesses ss) ≡ n
  count_is = length-map ss (λ (s : Swatch). s.l) ∙ size

  pub sorted-valid : deck_refusal (deck_of ss) ≡ 0
  unfolding swatches_in lightness_rises rising
  sorted-valid =
      let a_is = length-map ss (λ (s : Swatch). s.a) ∙ sym (length-map ss (λ (s : Swatch). s.l)) in
      let b_is = length-map ss (λ (s : Swatch). s.b) ∙ sym (length-map ss (λ (s : Swatch). s.l)) in
      let sized = sizes-in (lightnesses ss) (green_reds ss) (blue_yellows ss)
      (record { a_is = a_is; b_is = b_is; most = omega (arith, count_is) }) in
      let inside = every_of (λ k. eqb (colour_refusal ((deck_of ss).colour k)) 0) (length (lightnesses ss))
      (λ k h. let l : k < n = omega (arith, count_is) in
      ap (λ c. eqb (colour_refusal c) 0) (swatch-is k l) ∙ ap (λ m. eqb m 0) (row_within k l)) in
      let rises = every_of (λ j. every (λ i. le_z ((deck_of ss).colour i).l ((deck_of ss).colour j).l) j) (length (lightnesses ss))
      (λ j h. every_of (λ i. le_z ((deck_of ss).colour i).l ((deck_of ss).colour j).l) j
      (λ i l. rises-at i j l (omega (arith, count_is)))) in
      sym (refusal_is (deck_of ss) true true true sized inside rises)
