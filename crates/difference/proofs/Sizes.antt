-- Sizes of quotients. Assumes nothing.
use Prim.Native.Nat.{ℕ, ◌+◌, ◌*◌, ◌/◌, ◌≤◌, ◌<◌}
use native.Mathlib.Nat.{lt_of_lt_of_le, mul-le-mul_left, div-lt_iff_lt-mul}
use native.Mathlib.Omega.{arith}

-- n / w, for a w of at least m
pub quotient_le : (n w k m : ℕ) → 0 < w → m ≤ w → n < (k + 1) * m → n / w ≤ k
quotient_le n w k m p h l =
    let q : n / w < k + 1 = (div-lt_iff_lt-mul p).1 (lt_of_lt_of_le l (mul-le-mul_left (k + 1) h)) in
    omega arith
