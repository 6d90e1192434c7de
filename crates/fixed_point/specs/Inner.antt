-- What inner functions ask of a float. Assumes nothing.
use Rattle.std.specs.Prelude.{ℕ, ◌*◌, ◌≤◌, T, Float}
use Rattle.std.specs.Float.Ieee.Scale.{finite}
use Rattle.std.specs.Float.Ieee.Positive.{num, den}

-- finite, and of at most n in size
pub record AtMost (n : ℕ) (x : Float) : Type 0 where
  pub is_finite : T (finite x)
  pub size : num x ≤ n * den x
