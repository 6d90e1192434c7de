-- A search that gathers the places of a window into a scratch list, one test a place: what a turn keeps.
-- Assumes nothing.
use mathlib.Core.Path.{◌≡◌, sym, ap, ap₂, ◌∙◌}
use mathlib.Core.Bool.{Bool, true, false}
use mathlib.Core.List.{List, [], ◌++◌, append-nil}
use Prim.Native.Nat.{ℕ, ◌+◌, ◌-◌, ◌≤◌, ◌<◌, zero-le}
use native.Mathlib.Numerals.{add-one}
use native.Mathlib.Omega.{arith}
use lib.ListN.{length, set, take}
use lib.Seq.{take-suc-set}
use Rattle.places.specs.Places.{keep, hits}
use Rattle.places.proofs.PlacesLaws.{keep-true, keep-false, hits-zero, hits_more}

-- the first n entries of `found` are the places from lo up to i at which f holds
pub record Gathered (f : ℕ → Bool) (lo i n : ℕ) (found : List ℕ) : Type 0 where
  pub start : lo ≤ i
  pub most : n ≤ i - lo
  pub is : take n found ≡ hits f lo (i - lo)

module _ (f : ℕ → Bool) (lo : ℕ) (found : List ℕ) where
  pub gathered_none : Gathered f lo lo 0 found
  gathered_none =
      let e : 0 ≡ lo - lo = omega arith in
      record { start = omega arith; most = zero-le; is = sym (hits-zero f lo) ∙ ap (hits f lo) e }

  module _ (i n : ℕ) (g : Gathered f lo i n found) where
    next : hits f lo (i + 1 - lo) ≡ hits f lo (i - lo) ++ keep (f i) i []
    next =
        let more : i + 1 - lo ≡ i - lo + 1 = omega (arith, g.start) in
        let here : lo + (i - lo) ≡ i = omega (arith, g.start) in
        ap (hits f lo) more ∙ hits_more f lo (i - lo) ∙ ap (λ k. hits f lo (i - lo) ++ keep (f k) k []) here

    pub gathered-hit : f i ≡ true → n < length found → Gathered f lo (i + 1) (n + 1) (set found n i)
    gathered-hit h l = record {
      start = omega arith;
      most = omega arith;
      is = ap (λ m. take m (set found n i)) (add-one n) ∙ take-suc-set found n i l
          ∙ ap₂ ◌++◌ g.is (sym (keep-true (f i) i [] h)) ∙ sym next;
    }

    pub gathered-miss : f i ≡ false → Gathered f lo (i + 1) n found
    gathered-miss h = record {
      start = omega arith;
      most = omega arith;
      is = g.is ∙ sym (append-nil _) ∙ ap (λ l. hits f lo (i - lo) ++ l) (sym (keep-false (f i) i [] h)) ∙ sym next;
    }
