-- `decimal::put_fixed` meets its contract. Assumes nothing.
use mathlib.Core.Path.{◌≡◌}
use Prim.Native.Nat.{ℕ, ◌+◌, ◌/◌, ◌^◌, ◌≤◌, ◌<◌}
use Rattle.decimal.specs.Inner.{digit_count}
use native.Mathlib.Omega.{arith}
use Rattle.signed.proofs.SignedLaws.{int-size}
use Rattle.decimal.proofs.WritingLaws.{power-positive, whole-count, fixed-written}
use Rattle.decimal.proofs.put_fixed.Goals as goal

-- the digits before the point and after it
counted : (n places p k : ℕ) → n < 2 ^ 64 → places ≤ 6 → p ≡ 10 ^ places → k ≡ digit_count (n / p) → k + places ≤ 20
counted n places p k fits few e h = omega (arith, h, whole-count fits few e)

pub nonzero_div-whole : goal.nonzero_div-whole
nonzero_div-whole c = power-positive _ c.pow.ensures

pub put_last_digits-last-requires : goal.put_last_digits-last-requires
put_last_digits-last-requires c = omega (arith, counted c.args.v.n c.args.places _ _ (omega arith) c.requires.places_bound c.pow.ensures c.digit_count.ensures.is)

pub put_byte-requires : goal.put_byte-requires
put_byte-requires c = omega (arith, counted c.args.v.n c.args.places _ _ (omega arith) c.requires.places_bound c.pow.ensures c.digit_count.ensures.is)

pub returns : goal.returns
returns c =
    fixed-written _ _ _ _ (int-size _) c.pow.ensures c.digit_count.ensures.is (counted c.args.v.n c.args.places _ _ (omega arith) c.requires.places_bound c.pow.ensures c.digit_count.ensures.is) c.put_minus-first.ensures
    c.put_last_digits-point.ensures c.put_byte-decimals.ensures c.put_last_digits-last.ensures c.put_byte.ensures
