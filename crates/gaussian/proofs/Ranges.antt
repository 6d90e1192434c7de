-- What antt computes once over a range of numbers, turned into a law at each of them. Assumes nothing.
use mathlib.Core.Path.{◌≡◌, ◌∙◌, ap, sym}
use mathlib.Core.Bool.{Bool, true, false}
use mathlib.Core.List.{List, [], ◌∷◌}
use Prim.Native.Nat.{ℕ, zero, suc, ◌+◌, ◌≤◌, ◌<◌}
use native.Mathlib.Nat.{add-zero, zero-add, add-suc, suc-add}
use native.Mathlib.Numerals.{add-one}
use native.Mathlib.Omega.{arith}
use lib.Dec.{T, leb, leb→le}
use lib.ListN.{get_or}

-- f at i and at the numbers after it, n in all
abbrev pub tabulate : (ℕ → ℕ) → ℕ → ℕ → List ℕ
tabulate f i zero = []
tabulate f i (suc n) = f i ∷ tabulate f (suc i) n

abbrev both : Bool → Bool → Bool
both true b = b
both false b = false

-- from i, where f is last, f does not rise in the next n steps; each value is computed once
abbrev pub falling : (ℕ → ℕ) → ℕ → ℕ → ℕ → Bool
falling f i last zero = true
falling f i last (suc n) = let next : ℕ = f (suc i) in both (leb next last) (falling f (suc i) next n)

both_left : (a b : Bool) → T (both a b) → T a
both_left true b t = tt
both_left false b t = t

both_right : (a b : Bool) → T (both a b) → T b
both_right true b t = t
both_right false b t = absurd t

module _ (f : ℕ → ℕ) where
  tabulated-from : (i n k : ℕ) → k < n → get_or (tabulate f i n) k 0 ≡ f (i + k)
  tabulated-from i zero k h = absurd (omega arith)
  tabulated-from i (suc n) zero h = ap f (sym (add-zero i))
  tabulated-from i (suc n) (suc k) h = tabulated-from (suc i) n k (omega arith) ∙ ap f (omega arith)

  pub tabulated : (n k : ℕ) → k < n → get_or (tabulate f 0 n) k 0 ≡ f k
  tabulated n k h = tabulated-from 0 n k h ∙ ap f (omega arith)

  falls-from : (i n k : ℕ) → T (falling f i (f i) n) → k < n → f (suc (i + k)) ≤ f (i + k)
  falls-from i zero k t h = absurd (omega arith)
  falls-from i (suc n) zero t h = rw add-zero (leb→le (f (suc i)) (f i) (both_left (leb (f (suc i)) (f i)) (falling f (suc i) (f (suc i)) n) t))
  falls-from i (suc n) (suc k) t h =
      rw add-suc (rw suc-add at (falls-from (suc i) n k (both_right (leb (f (suc i)) (f i)) (falling f (suc i) (f (suc i)) n) t) (omega arith)))

  -- f does not rise from 0 to n
  pub falls : (n k : ℕ) → T (falling f 0 (f 0) n) → k < n → f (k + 1) ≤ f k
  falls n k t h = rw add-one (rw zero-add at (falls-from 0 n k t h))
