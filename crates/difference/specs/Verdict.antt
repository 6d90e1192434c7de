-- The verdict's rule. Assumes nothing.
use Rattle.std.specs.Prelude.{ℕ, ◌*◌, Bool, leb}

-- yes: millionths ≤ 100 × the tolerance in 1/10,000
unfoldable pub within_tolerance : ℕ → ℕ → Bool
within_tolerance millionths tolerance = leb millionths (100 * tolerance)
