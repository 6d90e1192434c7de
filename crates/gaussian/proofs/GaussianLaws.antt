-- The laws of the Gaussian that callers use: its entries fall, and neither they nor what stands between them pass 10^9.
-- Assumes nothing.
use mathlib.Core.Path.{◌≡◌, refl, ap}
use mathlib.Core.Bool.{Bool, cond}
use Prim.Native.Nat.{ℕ, zero, suc, ◌+◌, ◌/◌, ◌%◌, ◌≤◌, ◌<◌}
use native.Mathlib.Numerals.{add-one}
use native.Mathlib.Decide.{dec_lt}
use native.Mathlib.Omega.{arith}
use borrow.Author.Tests.{lt-ltb, le-ltb}
use Rattle.gaussian.specs.Gaussian.{terms, exp_series, gaussian_entry, gaussian_between, gaussian_of}
use Rattle.gaussian.proofs.Ranges.{falls}

-- one test that antt computes over all the entries
pub gaussian_entry-falls : (j : ℕ) → j < 1200 → gaussian_entry (j + 1) ≤ gaussian_entry j
unfolding gaussian_entry exp_series terms
gaussian_entry-falls j h = falls gaussian_entry 1200 j tt h

entry_zero : gaussian_entry 0 ≡ 1000000000
unfolding gaussian_entry exp_series terms
entry_zero = refl

pub gaussian_entry-le : (j : ℕ) → j < 1201 → gaussian_entry j ≤ 1000000000
gaussian_entry-le zero h = omega (arith, entry_zero)
gaussian_entry-le (suc j) h =
    rw (← add-one j) (omega (arith, gaussian_entry-falls j (omega arith), gaussian_entry-le j (omega arith)))

-- below 120 degrees the Gaussian is between two entries, and 0 from there on
pub gaussian-within : (d : ℕ) → d < 120000000 → gaussian_of d ≡ gaussian_between (d / 100000) (d % 100000)
unfolding gaussian_of
gaussian-within d h = ap (λ (b : Bool). cond b (gaussian_between (d / 100000) (d % 100000)) 0) (lt-ltb d 120000000 h)

pub gaussian-beyond : (d : ℕ) → 120000000 ≤ d → gaussian_of d ≡ 0
unfolding gaussian_of
gaussian-beyond d h = ap (λ (b : Bool). cond b (gaussian_between (d / 100000) (d % 100000)) 0) (le-ltb d 120000000 h)

pub gaussian_between-le : (j rest : ℕ) → gaussian_between j rest ≤ gaussian_entry j
unfolding gaussian_between
gaussian_between-le j rest = omega arith

pub gaussian-le : (d : ℕ) → gaussian_of d ≤ 1000000000
gaussian-le d = by-distance (dec_lt d 120000000)
  where
    by-distance : Dec (d < 120000000) → gaussian_of d ≤ 1000000000
    by-distance (yes h) =
        omega (arith, gaussian-within d h, gaussian_between-le (d / 100000) (d % 100000), gaussian_entry-le (d / 100000) (omega arith))
    by-distance (no f) = omega (arith, gaussian-beyond d (omega (arith, f)))
