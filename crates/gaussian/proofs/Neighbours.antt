-- Two entries next to each other, from wherever they were read: what `between` asks of them, and that it gives the
-- Gaussian. Assumes nothing.
use mathlib.Core.Path.{◌≡◌}
use Prim.Native.Nat.{ℕ, ◌+◌, ◌-◌, ◌*◌, ◌/◌, ◌%◌, ◌≤◌, ◌<◌}
use native.Mathlib.Omega.{arith}
use Rattle.gaussian.specs.Gaussian.{gaussian_entry, gaussian_between, gaussian_of}
use Rattle.gaussian.proofs.GaussianLaws.{gaussian_entry-le, gaussian_entry-falls, gaussian-within}

module _ (d here next : ℕ) (h : d < 120000000) (e : here ≡ gaussian_entry (d / 100000)) (f : next ≡ gaussian_entry (d / 100000 + 1)) where
  pub neighbours-in : (next ≤ here) × (here ≤ 1000000000)
  neighbours-in =
      let j : ℕ = d / 100000 in
      let l : j < 1200 = omega arith in
      (omega (arith, gaussian_entry-falls j l), omega (arith, gaussian_entry-le j (omega arith)))

  pub between_is : here - (here - next) * (d % 100000) / 100000 ≡ gaussian_of d
  unfolding gaussian_between
  between_is = cc (gaussian-within d h)
