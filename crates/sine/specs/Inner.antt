-- What inner functions say of an entry of the table of sines. Assumes nothing.
use Rattle.std.specs.Prelude.{◌≡◌, ℕ, ◌≤◌}
use Rattle.sine.specs.Sine.{sine_entry}

-- an entry as it is looked up
pub record Entry (k r : ℕ) : Type 0 where
  pub is : r ≡ sine_entry k
  pub size : r ≤ 1000000000
