-- Step 12 over the figures of the steps before it: the weighted parts and what they come to, in whole numbers of 10^-6.
-- Assumes nothing.
use Rattle.std.specs.Prelude.{ℕ, ◌+◌, ◌*◌, ◌/◌, ℤ, pos, nat_abs, ◌-ℤ◌, ◌*ℤ◌}
use Rattle.std.specs.Int.Signed.{quot_z}
use Rattle.isqrt.specs.Root.{root_of}
use Rattle.sample.specs.declared.FixedWeights.{FixedWeights}

-- W = k S / 10^4
unfoldable pub weighted : ℕ → ℕ → ℕ
weighted k s = k * s / 10000

-- |d| × scale / W, with the sign of the difference d
unfoldable pub part_of : ℤ → ℕ → ℕ → ℤ
part_of d scale w = quot_z (d *ℤ pos scale) (pos w)

-- the signed lightness, chroma and hue parts
pub record Parts : Type 0 where
  pub l : ℤ
  pub c : ℤ
  pub h : ℤ

-- dL in 1/10,000, dC' and H in 10^-7, the weights k in 1/10,000 and S in 10^-9
unfoldable pub parts_of : FixedWeights → ℤ → ℤ → ℤ → ℕ → ℕ → ℕ → Parts
parts_of k dl dc dh sl sc sh =
    record {
      l = part_of dl 100000000000 (weighted k.l sl);
      c = part_of dc 100000000 (weighted k.c sc);
      h = part_of dh 100000000 (weighted k.h sh);
    }

unfoldable pub squared : ℤ → ℕ
squared x = nat_abs x * nat_abs x

-- l² + c² + h² - c × (h × R / 10^9), which is never negative for an R of at most 2 × 10^9
unfoldable pub sum_of : Parts → ℕ → ℤ
sum_of p r = pos (squared p.l + squared p.c + squared p.h) -ℤ p.c *ℤ quot_z (p.h *ℤ pos r) (pos 1000000000)

-- the difference: the root of that sum
unfoldable pub combined : Parts → ℕ → ℕ
combined p r = root_of (nat_abs (sum_of p r))
