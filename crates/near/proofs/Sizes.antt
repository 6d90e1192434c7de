-- The radius fits 64 bits: of m, the bound of the parts, of the weight k and of u, the bound of SC and SH. Assumes nothing.
use Prim.Native.Nat.{ℕ, ◌+◌, ◌*◌, ◌/◌, ◌≤◌}
use native.Mathlib.Nat.{mul-le-mul}
use native.Mathlib.Omega.{arith}

module _ (m k : ℕ) (h : m ≤ 275000006) (l : k ≤ 100000) where
  pub parts-fit : m * k ≤ 27500000600000
  parts-fit = mul-le-mul h l

  pub product-fits : (u : ℕ) → u ≤ 12521 → (m * k / 10000 + 1) * u ≤ 34432750763781
  product-fits u n = let a : m * k / 10000 + 1 ≤ 2750000061 = omega (arith, parts-fit) in mul-le-mul a n
