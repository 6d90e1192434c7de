-- The window: a swatch whose lightness is beyond the reach of the lightness bound does not match, so that only the
-- places between two bounds count. Assumes nothing.
use mathlib.Core.Path.{◌≡◌, refl, sym, ap, ◌∙◌}
use mathlib.Core.Bool.{true, false, true≢false}
use Prim.Native.Nat.{ℕ, zero, suc, ◌+◌, ◌-◌, ◌*◌, ◌/◌, ◌≤◌, ◌<◌}
use native.Mathlib.Nat.{mul-le-mul}
use native.Mathlib.Decide.{dec_le}
use native.Mathlib.Omega.{arith}
use borrow.Author.Tests.{ltb-true, leb-true, le-leb, lt-leb}
use lib.Dec.{leb-zero}
use lib.IntN.{ℤ, pos, neg_ℤ, nat_abs, ◌-ℤ◌}
use lib.Signed.{lt_z, le_z}
use Rattle.signed.specs.Inner.{int}
use Rattle.signed.proofs.SignedLaws.{nat_abs-neg, lt-pos-neg}
use Rattle.signed.proofs.Results.{apart-down, apart-up}
use Rattle.places.specs.Places.{hits}
use Rattle.places.specs.Inner.{Split}
use Rattle.places.proofs.PlacesLaws.{split-order, matches-between}
use Rattle.sample.specs.Sample.{colour_sample}
use Rattle.sample.specs.Inner.{SampleIn, WeightsIn}
use Rattle.sample.proofs.SampleLaws.{accepted-in, accepted-lightness}
use Rattle.difference.specs.Pair.{lightness_difference}
use Rattle.difference.specs.Verdict.{within_tolerance}
use Rattle.difference.proofs.LightnessBound.{beyond-tolerance}
use Rattle.deck.specs.Deck.{Deck, FixedQuery, difference_at, match_at, match_list}
use Rattle.deck.proofs.DeckLaws.{Valid}

-- ---- differences of naturals

sub-down : (x y : ℕ) → y ≤ x → pos x -ℤ pos y ≡ pos (x - y)
unfolding int
sub-down x y h = sym (apart-down x y h).is

sub-up : (x y : ℕ) → x < y → pos x -ℤ pos y ≡ neg_ℤ (pos (y - x))
unfolding int
sub-up x y h = sym (apart-up x y h).is

-- ---- the bounds L + 1 - (d + 1) and L + (d + 1), of a lightness L and a reach d

module _ (x d : ℕ) where
  pub below-reach : (m : ℕ) → lt_z (pos m) (pos (x + 1) -ℤ pos (d + 1)) ≡ true → d < nat_abs (pos x -ℤ pos m)
  below-reach m e = by_order (dec_le (d + 1) (x + 1))
    where
      by_order : Dec (d + 1 ≤ x + 1) → d < nat_abs (pos x -ℤ pos m)
      by_order (yes h) =
          let l : m < x + 1 - (d + 1) = ltb-true _ _ (sym (ap (lt_z (pos m)) (sub-down (x + 1) (d + 1) h)) ∙ e) in
          let s : nat_abs (pos x -ℤ pos m) ≡ x - m = ap nat_abs (sub-down x m (omega arith)) in
          omega arith
      by_order (no f) =
          let u : x + 1 < d + 1 = omega (arith, f) in
          absurd (true≢false (sym e ∙ ap (lt_z (pos m)) (sub-up (x + 1) (d + 1) u) ∙ lt-pos-neg m (d + 1 - (x + 1))))

  pub above-reach : (m : ℕ) → le_z (pos (x + (d + 1))) (pos m) ≡ true → d < nat_abs (pos x -ℤ pos m)
  above-reach m e =
      let l : x + (d + 1) ≤ m = leb-true _ _ e in
      let s : nat_abs (pos x -ℤ pos m) ≡ m - x = ap nat_abs (sub-up x m (omega arith)) ∙ nat_abs-neg (pos (m - x)) in
      omega arith

  pub reach-order : le_z (pos (x + 1) -ℤ pos (d + 1)) (pos (x + (d + 1))) ≡ true
  reach-order = by_order (dec_le (d + 1) (x + 1))
    where
      negative : (n m : ℕ) → le_z (neg_ℤ (pos n)) (pos m) ≡ true
      negative zero m = leb-zero m
      negative (suc n) m = refl

      by_order : Dec (d + 1 ≤ x + 1) → le_z (pos (x + 1) -ℤ pos (d + 1)) (pos (x + (d + 1))) ≡ true
      by_order (yes h) =
          ap (λ z. le_z z (pos (x + (d + 1)))) (sub-down (x + 1) (d + 1) h)
          ∙ le-leb (x + 1 - (d + 1)) (x + (d + 1)) (omega arith)
      by_order (no f) =
          ap (λ z. le_z z (pos (x + (d + 1)))) (sub-up (x + 1) (d + 1) (omega (arith, f)))
          ∙ negative (d + 1 - (x + 1)) (x + (d + 1))

-- a reach of x / 40,000 in whole numbers
beyond : (x d : ℕ) → x / 40000 < d → x < 40000 * d
beyond x d h = omega arith

-- the reach of any weight and tolerance
pub reach-most : (k τ : ℕ) → k ≤ 100000 → τ ≤ 1000000 → 7 * k * (τ + 1) ≤ 700000700000
reach-most k τ h t =
    let a : 7 * k ≤ 700000 = omega arith in
    let b : τ + 1 ≤ 1000001 = omega arith in
    mul-le-mul a b

-- ---- a swatch beyond the reach

module _ (q : FixedQuery) (p : WeightsIn q.weights) (r : SampleIn q.reading) (d : Deck) (v : Valid d) where
  abbrev reach_of : ℕ
  reach_of = 7 * q.weights.l * (q.tolerance + 1) / 40000

  abbrev lightness : ℕ → ℤ
  lightness k = (d.colour k).l

  module _ (k : ℕ) (l : k < d.count) where
    far-fails : reach_of < nat_abs (pos q.reading.l -ℤ pos (nat_abs (lightness k))) → match_at q d k ≡ false
    unfolding match_at difference_at within_tolerance lightness_difference colour_sample
    far-fails f =
        let s = accepted-in (d.colour k) (v.colours k l) in
        lt-leb _ _ (beyond-tolerance q.weights _ q.reading q.tolerance s r p (beyond _ _ f))

    whole : lightness k ≡ pos (nat_abs (lightness k))
    whole = accepted-lightness (d.colour k) (v.colours k l)

    below_fails : lt_z (lightness k) (pos (q.reading.l + 1) -ℤ pos (reach_of + 1)) ≡ true → match_at q d k ≡ false
    below_fails e =
        let low = pos (q.reading.l + 1) -ℤ pos (reach_of + 1) in
        far-fails (below-reach _ reach_of _ (ap (λ z. lt_z z low) (sym whole) ∙ e))

    above-fails : le_z (pos (q.reading.l + (reach_of + 1))) (lightness k) ≡ true → match_at q d k ≡ false
    above-fails e = far-fails (above-reach _ reach_of _ (ap (le_z (pos (q.reading.l + (reach_of + 1)))) (sym whole) ∙ e))

  -- a window of the reach n holds all the matches
  module _ (n : ℕ) (e : n ≡ reach_of) (lo hi : ℕ)
      (s : Split lightness d.count (pos (q.reading.l + 1) -ℤ pos (n + 1)) lo)
      (t : Split lightness d.count (pos (q.reading.l + (n + 1))) hi) where
    pub window-order : lo ≤ hi
    window-order = split-order lightness d.count _ _ (reach-order q.reading.l n) lo hi s t

    pub window-matches : match_list q d ≡ hits (match_at q d) lo (hi - lo)
    unfolding match_list
    window-matches =
        matches-between lightness d.count _ _ (reach-order q.reading.l n) lo hi s t (match_at q d)
        (λ k l h. below_fails k l (rw e at h)) (λ k l h. above-fails k l (rw e at h))
