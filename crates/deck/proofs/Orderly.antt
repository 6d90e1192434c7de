-- One test of each swatch and of the one before it is the test of all, and of their order. Assumes nothing.
use mathlib.Core.Path.{◌≡◌, refl, sym, ap, ◌∙◌}
use mathlib.Core.Bool.{Bool, true, false, not, ◌&&◌, ◌||◌, cond, and-eq-true_iff}
use Prim.Native.Nat.{ℕ, zero, suc, ◌<◌, zero-le}
use native.Mathlib.Numerals.{add-one}
use native.Mathlib.Omega.{arith}
use borrow.Author.Tests.{eqb-true, le-leb}
use lib.Dec.{eqb}
use lib.IntN.{ℤ, nat_abs}
use lib.Signed.{le_z}
use Rattle.places.specs.Places.{every, rising}
use Rattle.places.proofs.PlacesLaws.{every-at, every_of, rising-at, rising-neighbours}
use Rattle.sample.specs.Sample.{colour_refusal}
use Rattle.sample.proofs.SampleLaws.{accepted-lightness}
use Rattle.deck.specs.Deck.{Deck, swatches_in, lightness_rises, deck_refusal}
use Rattle.deck.specs.Inner.{lightness_before, swatch_in_order}
use Rattle.deck.proofs.DeckLaws.{refusal_is}

bool_iff : (a b : Bool) → (a ≡ true → b ≡ true) → (b ≡ true → a ≡ true) → a ≡ b
bool_iff true b f g = sym (f refl)
bool_iff false true f g = g refl
bool_iff false false f g = refl

seven : (s t u : Bool) → (s && t) ≡ u → cond {A = ℕ} u 0 7 ≡ cond (not s || not t) 7 0
seven true true u e = ap (λ b. cond b 0 7) (sym e)
seven true false u e = ap (λ b. cond b 0 7) (sym e)
seven false t u e = ap (λ b. cond b 0 7) (sym e)

module _ (d : Deck) where
  abbrev within : ℕ → Bool
  within k = eqb (colour_refusal (d.colour k)) 0

  abbrev lightness : ℕ → ℤ
  lightness k = (d.colour k).l

  parts : (n k : ℕ) → every (swatch_in_order d) n ≡ true → k < n
      → (le_z (lightness_before d k) (lightness k) ≡ true) × (within k ≡ true)
  unfolding swatch_in_order
  parts n k e h =
      (and-eq-true_iff (le_z (lightness_before d k) (lightness k)) (within k)).0 (every-at (swatch_in_order d) n k e h)

  no-darker : (n : ℕ) → every within n ≡ true → rising lightness n ≡ true → (k : ℕ) → k < n
      → le_z (lightness_before d k) (lightness k) ≡ true
  no-darker n w r zero h =
      rw (accepted-lightness (d.colour 0) (eqb-true _ 0 (every-at within n 0 w h))) (le-leb 0 (nat_abs (lightness 0)) zero-le)
  no-darker n w r (suc k) h = rising-at lightness n k (suc k) r (omega arith) h

  orderly : (n : ℕ) → every (swatch_in_order d) n ≡ (every within n && rising lightness n)
  unfolding swatch_in_order
  orderly n =
      bool_iff _ _
      (λ e.
      (and-eq-true_iff (every within n) (rising lightness n)).1 (
        every_of within n (λ k h. (parts n k e h).1),
        rising-neighbours lightness n (λ i h. rw (add-one i) (parts n (suc i) e (omega arith)).0),
      ))
      (λ e.
      let both = (and-eq-true_iff (every within n) (rising lightness n)).0 e in
      every_of (swatch_in_order d) n (λ k h.
      (and-eq-true_iff (le_z (lightness_before d k) (lightness k)) (within k)).1
      (no-darker n both.0 both.1 k h, every-at within n k both.0 h)))

  -- the refusal of a deck whose size is in order
  pub orderly-refusal : (t : Bool) → d.sized ≡ true → every (swatch_in_order d) d.count ≡ t → cond t 0 7 ≡ deck_refusal d
  unfolding swatches_in lightness_rises
  orderly-refusal t s e =
      seven (swatches_in d) (lightness_rises d) t (sym (orderly d.count) ∙ e) ∙ refusal_is d true _ _ s refl refl
