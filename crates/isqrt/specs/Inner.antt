-- The start of the loop that finds a root bit by bit.
use Rattle.std.specs.Prelude.{ℕ, ◌+◌, ◌*◌, ◌^◌, ◌≤◌, ◌<◌}

-- How many bits of the root of n the loop is to find, one in each round: enough, and for a number of at most 2k bits k + 1 at most.
pub record RootBits (n bits : ℕ) : Type 0 where
  pub enough : n < 2 ^ (2 * bits)
  pub few : (k : ℕ) → n < 2 ^ (2 * k) → bits ≤ k + 1
  pub range : (1 ≤ bits) × (bits ≤ 32)
