-- How numbers lie in a lane, and what a binary search of a column or a lane answers.
use Rattle.std.specs.Prelude.{◌≡◌, true, List, ℕ, ◌*◌, ◌≤◌, ◌<◌, ℤ, length}
use Rattle.std.specs.Int.Signed.{lt_z, le_z}
use Rattle.places.specs.Places.{at}

-- a lane is a list and a stride: its entry k stands at k times the stride. A column is a lane with stride 1
abbrev pub lane_at : List ℤ → ℕ → ℕ → ℤ
lane_at lane stride k = at lane (k * stride)

-- the lane holds n entries
abbrev pub Spans : List ℤ → ℕ → ℕ → Type 0
Spans lane stride n = (k : ℕ) → k < n → k * stride < length lane

-- of the n places of g, those before r hold less than the bound, and the others at least the bound
pub record Split (g : ℕ → ℤ) (n : ℕ) (bound : ℤ) (r : ℕ) : Type 0 where
  pub size : r ≤ n
  pub below : (k : ℕ) → k < r → lt_z (g k) bound ≡ true
  pub above : (k : ℕ) → r ≤ k → k < n → le_z bound (g k) ≡ true
