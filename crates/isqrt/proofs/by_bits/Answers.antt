-- `isqrt::by_bits` meets its contract. The loop's invariant: the root lies between the bits found and these and 2 ^ left together.
-- The measure is the number of bits left. Assumes nothing.
use mathlib.Core.Path.{◌≡◌, sym, ap, ◌∙◌}
use Prim.Native.Nat.{ℕ, zero, suc, ◌+◌, ◌-◌, ◌*◌, ◌%◌, ◌^◌, ◌≤◌, ◌<◌}
use native.Mathlib.Nat.{one-mul, two-pow-succ}
use native.Mathlib.Omega.{arith}
use lib.Dec.{lit<}
use lib.Pow.{pow_pos, pow_mono, pow-add, shl_exact}
use Rattle.isqrt.specs.Root.{root_of}
use Rattle.isqrt.specs.Inner.{RootBits}
use Rattle.isqrt.proofs.RootLaws.{root-unique}
use Rattle.isqrt.proofs.by_bits.Invariants.{Between}
use Rattle.isqrt.proofs.by_bits.Goals as goal

-- `1 << k`, which the machine has as a product cut to 64 bits
abbrev bit : ℕ → ℕ
bit k = (1 * 2 ^ k) % 2 ^ 64

bit_is : (k : ℕ) → k < 64 → bit k ≡ 2 ^ k
bit_is k h = shl_exact {a = 1} 1 k 64 (lit< tt) (omega arith) ∙ one-mul (2 ^ k)

-- a turn of the loop
module _ {n bits root left : ℕ} (h : Between n bits root left) (some : 0 < left) where
  tried-bit : bit (left - 1) ≡ 2 ^ (left - 1)
  tried-bit = bit_is (left - 1) (omega arith)

  half : 2 ^ (left - 1) + 2 ^ (left - 1) ≡ 2 ^ left
  half = sym (two-pow-succ (left - 1)) ∙ ap (λ (k : ℕ). 2 ^ k) (omega arith)

  tried-small : root + bit (left - 1) ≤ 2 ^ 32 - 1
  tried-small = omega (arith, tried-bit, half, pow_pos (left - 1))

  taken : (root + bit (left - 1)) * (root + bit (left - 1)) ≤ n → Between n bits (root + bit (left - 1)) (left - 1)
  taken t = record { low = t; high = rw both h.high; small = rw both h.small; few = omega arith }
    where
      both : root + bit (left - 1) + 2 ^ (left - 1) ≡ root + 2 ^ left
      both = omega (arith, tried-bit, half)

  left_out : n < (root + bit (left - 1)) * (root + bit (left - 1)) → Between n bits root (left - 1)
  left_out t = record { low = h.low; high = rw (← tried-bit) t; small = omega (arith, tried-bit, tried-small); few = omega arith }

starts : {n bits : ℕ} → RootBits n bits → (left : ℕ) → left ≡ bits → Between n bits 0 left
starts {n} {bits} h left e =
    record { low = omega arith; high = omega (arith, h.enough, square); small = omega (arith, pow_mono h.range.1, power); few = omega (arith, h.range) }
  where
    power : 2 ^ left ≡ 2 ^ bits
    power = ap (λ (k : ℕ). 2 ^ k) e

    square : 2 ^ (2 * bits) ≡ 2 ^ left * 2 ^ left
    square = ap (λ (k : ℕ). 2 ^ k) (omega (arith, e)) ∙ pow-add 2 left left

found : {n bits root : ℕ} (left : ℕ) → Between n bits root left → left ≤ 0 → root ≡ root_of n
found zero h none = sym (root-unique _ _ h.low h.high)
found (suc k) h none = absurd (omega arith)

pub loop-left-init : goal.loop-left-init
loop-left-init c = starts c.requires _ (omega arith)

pub returns : goal.returns
returns c = found _ c.loop-left.invariant (omega arith)
