-- `isqrt::root_bits` meets its contract: setting the lowest bit leaves the length of every number but 0. Assumes nothing.
use mathlib.Core.Path.{◌≡◌}
use Prim.Native.Nat.{ℕ, suc, ◌+◌, ◌-◌, ◌*◌, ◌%◌, ◌^◌, ◌≤◌, ◌<◌}
use native.Mathlib.Decide.{dec_le}
use native.Mathlib.Omega.{arith}
use lib.Bits.{bit_or, or_add_and, and_mask}
use lib.Pow.{pow_mono, pow-lt}
use lib.Count.{count_leading_zeros, leading_top}
use Rattle.isqrt.specs.Inner.{RootBits}
use Rattle.isqrt.proofs.root_bits.Goals as goal

-- j is the place of the highest bit of n with its lowest bit set, and z zeros lead it
record Highest (n z j : ℕ) : Type 0 where
  rest : z + suc j ≡ 64
  low : 2 ^ j ≤ n + 1
  high : n < 2 ^ suc j

highest : (n : ℕ) → n < 2 ^ 64 → (j : ℕ) × Highest n (count_leading_zeros 64 (bit_or n 1)) j
highest n fits =
    let odd : bit_or n 1 ≡ n + 1 - n % 2 = omega (arith, or_add_and n 1, and_mask n 1) in
    let t = leading_top 64 (bit_or n 1) (omega arith) (omega arith) in
    (t.0, record { rest = t.1; low = omega (arith, t.2); high = omega (arith, t.3) })

-- r is half of the j + 1 bits, rounded up
root-bits : {n z j : ℕ} → Highest n z j → (r : ℕ) → (j < 2 * r) × (2 * r ≤ j + 2) → RootBits n r
root-bits {n} {z} {j} h r half =
    record { enough = omega (arith, h.high, pow_mono {i = suc j} {j = 2 * r} half.0); few = few; range = omega (arith, h.rest, half) }
  where
    few : (k : ℕ) → n < 2 ^ (2 * k) → r ≤ k + 1
    few k small = either (dec_le j (2 * k))
      where
        either : Dec (j ≤ 2 * k) → r ≤ k + 1
        either (yes g) = omega (arith, half)
        either (no g) = absurd (omega (arith, h.low, pow-lt {i = 2 * k} {j = j} (omega (arith, g))))

pub returns : goal.returns
returns c =
    let h = (highest c.args.n c.ranges.n.fits).1 in
    let rest : count_leading_zeros 64 (bit_or c.args.n 1) + suc _ ≡ 64 = h.rest in
    root-bits h _ (omega arith)
