-- A rising column is parted by a bound, and where it is parted is the answer of a binary search; what a turn of such a
-- search keeps. Assumes nothing.
use mathlib.Core.Path.{◌≡◌}
use mathlib.Core.Bool.{true, false}
use mathlib.Core.List.{List}
use Prim.Native.Nat.{ℕ, ◌+◌, ◌≤◌, ◌<◌, zero-le}
use native.Mathlib.Nat.{le_refl}
use native.Mathlib.Omega.{arith}
use lib.IntN.{ℤ, pos}
use lib.ListN.{length, get_or}
use lib.Signed.{lt_z, le_z}
use Rattle.std.proofs.lemmas.List.{get_or_default}
use Rattle.std.specs.List.Sorted.{IsPartitionedBy, IsPartitionPoint}
use Rattle.places.specs.Places.{at, rising}
use Rattle.places.specs.Inner.{Split}
use Rattle.places.proofs.Order.{le_z-trans, le_z-lt, not-lt-le}
use Rattle.places.proofs.PlacesLaws.{rising-at}

module _ (xs : List ℤ) (bound : ℤ) where
  pub rising-parted : rising (at xs) (length xs) ≡ true → IsPartitionedBy (λ x. lt_z x bound) xs
  rising-parted up i j d l m h =
      let i_in : i < length xs = omega arith in
      let first : get_or xs i d ≡ at xs i = get_or_default xs i d (pos 0) i_in in
      let later : get_or xs j d ≡ at xs j = get_or_default xs j d (pos 0) m in
      rw first
      (le_z-lt (at xs i) (at xs j) bound (rising-at (at xs) (length xs) i j up l m) (rw later at h))

  pub split_of : (r : ℕ) → r ≤ length xs
      → IsPartitionPoint (λ x. lt_z x bound ≡ true) (λ x. lt_z x bound ≡ false) xs r → Split (at xs) (length xs) bound r
  split_of r l p =
      record {
        size = l;
        below = λ k m. p.0 k (pos 0) zero-le m;
        above = λ k m n. not-lt-le (at xs k) bound (p.1 k (pos 0) m n);
      }

-- the places before lo hold less than the bound, and those from hi on at least the bound
pub record Bracket (g : ℕ → ℤ) (n : ℕ) (bound : ℤ) (lo hi : ℕ) : Type 0 where
  pub order : lo ≤ hi
  pub size : hi ≤ n
  pub below : (k : ℕ) → k < lo → lt_z (g k) bound ≡ true
  pub above : (k : ℕ) → hi ≤ k → k < n → le_z bound (g k) ≡ true

module _ (g : ℕ → ℤ) (n : ℕ) (bound : ℤ) where
  pub bracket-whole : Bracket g n bound 0 n
  bracket-whole =
      record {
        order = zero-le;
        size = le_refl n;
        below = λ k l. absurd (omega arith);
        above = λ k l m. absurd (omega arith);
      }

  pub bracket-met : (lo hi : ℕ) → Bracket g n bound lo hi → hi ≤ lo → Split g n bound lo
  bracket-met lo hi b h =
      record { size = omega arith; below = b.below; above = λ k l m. b.above k (omega arith) m }

  -- the place in the middle, which holds z, settles one half
  module _ (up : rising g n ≡ true) (lo hi mid : ℕ) (b : Bracket g n bound lo hi)
      (l : lo ≤ mid) (m : mid < hi) {z : ℤ} (e : z ≡ g mid) where
    pub bracket-upper : lt_z z bound ≡ true → Bracket g n bound (mid + 1) hi
    bracket-upper h = record {
      order = omega arith;
      size = b.size;
      below = λ k i. le_z-lt (g k) (g mid) bound (rising-at g n k mid up (omega arith) (omega arith)) (rw e at h);
      above = b.above;
    }

    pub bracket-lower : lt_z z bound ≡ false → Bracket g n bound lo mid
    bracket-lower h = record {
      order = l;
      size = omega arith;
      below = b.below;
      above = λ k i j.
          le_z-trans bound (g mid) (g k) (not-lt-le (g mid) bound (rw e at h)) (rising-at g n mid k up i j);
    }
