-- `weighting::lightness_weight` meets its contract: no product wraps, and the root is not 0. Assumes nothing.
use Prim.Native.Nat.{◌+◌, ◌*◌, ◌≤◌}
use native.Mathlib.Nat.{mul-le-mul}
use native.Mathlib.Omega.{arith}
use Rattle.signed.proofs.Squares.{apart-size}
use Rattle.weighting.specs.Weighting.{lightness_offset, lightness_weight_at, lightness_weight}
use Rattle.weighting.proofs.lightness_weight.Goals as goal

-- the difference's size is at most L1 + L2 + 1,000,000
square : (c : goal.After-abs_diff-m) → c.abs_diff-m.result * c.abs_diff-m.result ≤ 3000000 * 3000000
square c = mul-le-mul {n₂ = 3000000} {m₂ = 3000000} (omega arith) (omega arith)

pub overflow_mul-result : goal.overflow_mul-result
overflow_mul-result c = omega (arith, square c)

pub overflow_add-square : goal.overflow_add-square
overflow_add-square c = omega (arith, square c)

pub overflow_mul-square-2 : goal.overflow_mul-square-2
overflow_mul-square-2 c = omega (arith, square c)

pub returns : goal.returns
unfolding lightness_weight lightness_weight_at lightness_offset
returns c = cc (apart-size (c.args.l1 + c.args.l2) 1000000)
