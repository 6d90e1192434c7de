use Prim.Native.Nat.{ℕ, ◌+◌, ◌*◌, ◌^◌, ◌≤◌, ◌<◌}
use Rattle.isqrt.proofs.by_bits.Given as goal

-- the root of n is at least root, and below root + 2 ^ left; no more rounds are left than there were bits to find
pub record Between (n bits root left : ℕ) : Type 0 where
  pub low : root * root ≤ n
  pub high : n < (root + 2 ^ left) * (root + 2 ^ left)
  pub small : root + 2 ^ left ≤ 2 ^ 32
  pub few : (left ≤ bits) × (bits ≤ 32)

abbrev pub invariant-loop-left : goal.invariant-loop-left
invariant-loop-left l = Between l.n l.bits l.root l.left
