-- The laws of the root that callers use: it is the largest whole number whose square is at most n, and what follows of that.
-- Assumes nothing.
use mathlib.Core.Path.{◌≡◌, refl}
use mathlib.Core.Bool.{Bool, true, false, cond}
use Prim.Native.Nat.{ℕ, zero, suc, ◌+◌, ◌*◌, ◌/◌, ◌^◌, ◌≤◌, ◌<◌}
use native.Mathlib.Nat.{add-mul, mul-add, mul_assoc, mul_comm, mul-le-mul}
use native.Mathlib.Omega.{arith}
use native.Mathlib.Decide.{dec_le}
use lib.Dec.{leb}
use borrow.Author.Tests.{leb-true, leb-false}
use Rattle.isqrt.specs.Root.{next_root, root_in, root_of}

-- r is a root of n: the only number for which this holds, as `below` says
record IsRoot (n r : ℕ) : Type 0 where
  low : r * r ≤ n
  high : n < (r + 1) * (r + 1)

-- where x's square is at most n and n is below y's square, x is below y
below : {n x y : ℕ} → x * x ≤ n → n < y * y → x < y
below {n} {x} {y} h k = either (dec_le y x)
  where
    either : Dec (y ≤ x) → x < y
    either (yes g) = absurd (omega (arith, mul-le-mul g g))
    either (no f) = omega (arith, f)

square-double : (s : ℕ) → (2 * s) * (2 * s) ≡ 4 * (s * s)
square-double s = omega (arith, mul_assoc 2 s (2 * s), mul_comm s (2 * s), mul_assoc 2 s s)

pub square-next : (x : ℕ) → (x + 1) * (x + 1) ≡ x * x + 2 * x + 1
square-next x = omega (arith, add-mul x 1 (x + 1), mul-add x x 1)

-- one more bit: the root of n from that of its quarter
next : (n s : ℕ) → IsRoot (n / 4) s → IsRoot n (next_root n s)
unfolding next_root
next n s h = by-test (leb ((2 * s + 1) * (2 * s + 1)) n) refl
  where
    by-test : (b : Bool) → leb ((2 * s + 1) * (2 * s + 1)) n ≡ b → IsRoot n (cond b (2 * s + 1) (2 * s))
    by-test true e =
        record { low = leb-true _ _ e; high = omega (arith, square-next (2 * s + 1), square-next (2 * s), square-double s, square-next s) }
    by-test false e = record { low = omega (arith, square-double s); high = leb-false _ _ e }

root_in-is_root : (k n : ℕ) → n ≤ k → IsRoot n (root_in k n)
unfolding root_in
root_in-is_root zero n h = record { low = omega arith; high = omega arith }
root_in-is_root (suc k) zero h = record { low = omega arith; high = omega arith }
root_in-is_root (suc k) (suc n) h = next (suc n) (root_in k (suc n / 4)) (root_in-is_root k (suc n / 4) (omega arith))

is-root : (n : ℕ) → IsRoot n (root_of n)
unfolding root_of
is-root n = root_in-is_root n n (omega arith)

pub root-square-le : (n : ℕ) → root_of n * root_of n ≤ n
root-square-le n = (is-root n).low

pub root-lt-next : (n : ℕ) → n < (root_of n + 1) * (root_of n + 1)
root-lt-next n = (is-root n).high

-- with `root-square-le`: the root is the largest number whose square is at most n
pub root-largest : (n x : ℕ) → x * x ≤ n → x ≤ root_of n
root-largest n x h = omega (arith, below h (root-lt-next n))

pub root_below : (n x : ℕ) → n < x * x → root_of n < x
root_below n x h = below (root-square-le n) h

pub root-unique : (n r : ℕ) → r * r ≤ n → n < (r + 1) * (r + 1) → root_of n ≡ r
root-unique n r h k = omega (arith, root-largest n r h, root_below n (r + 1) k)

pub root-mono : {m n : ℕ} → m ≤ n → root_of m ≤ root_of n
root-mono {m} {n} h = root-largest n (root_of m) (omega (arith, root-square-le m))

pub root_of-square : (x : ℕ) → root_of (x * x) ≡ x
root_of-square x = root-unique (x * x) x (omega arith) (omega (arith, square-next x))

pub root-square-plus : (x y : ℕ) → x ≤ root_of (x * x + y)
root-square-plus x y = root-largest (x * x + y) x (omega arith)

pub root-le : (n x : ℕ) → n ≤ x * x → root_of n ≤ x
root-le n x h = omega (arith, root_below n (x + 1) (omega (arith, square-next x)))

-- the root of a u64 has at most 32 bits
pub root-lt-pow : (n : ℕ) → n < 2 ^ 64 → root_of n < 2 ^ 32
root-lt-pow n h = root_below n (2 ^ 32) h
