-- `difference::parts::root_of_parts` meets its contract: a product with minus R is subtracted when it is added.
-- Assumes nothing.
use mathlib.Core.Path.{◌≡◌, sym, ap, ◌∙◌, subst}
use Prim.Native.Nat.{ℕ, ◌+◌, ◌*◌, ◌≤◌}
use native.Mathlib.Nat.{mul-le-mul}
use native.Mathlib.Omega.{arith}
use lib.IntN.{ℤ, pos, neg_ℤ, nat_abs, ◌+ℤ◌, ◌*ℤ◌}
use lib.Signed.{quot_z}
use Rattle.isqrt.specs.Root.{root_of}
use Rattle.isqrt.proofs.RootLaws.{root-le}
use Rattle.signed.specs.Inner.{int}
use Rattle.signed.proofs.SignedLaws.{mul-neg, neg-quot}
use Rattle.difference.specs.Parts.{sum_of, combined}
use Rattle.difference.specs.Inner.{signed_parts}
use Rattle.signed.proofs.Squares.{square_le}
use Rattle.difference.proofs.parts.root_of_parts.Goals as goal
use Rattle.difference.proofs.parts.root_of_parts.Goals.{After-divided, After-from-sum, After-size}

-- h R / 10^9
turn-le : (c : After-divided) → c.divided.result.n ≤ 1846042254
turn-le c =
    omega (arith, c.divided.ensures.size, c.product.ensures.size, mul-le-mul c.requires.signed_parts_in.h c.requires.r_bound)

-- what stands under the root: the greatest sizes of the parts give less than 1,400²
total-le : (c : After-from-sum) → c.from-sum.result.n + c.product-turned.result.n ≤ 1400000000 * 1400000000
total-le c =
    omega (
      arith,
      c.from-sum.ensures.size,
      c.sum_of_squares.ensures.size,
      square_le c.requires.signed_parts_in.l,
      square_le c.requires.signed_parts_in.c,
      square_le c.requires.signed_parts_in.h,
      c.product-turned.ensures.size,
      mul-le-mul c.requires.signed_parts_in.c (turn-le c.before.before.before.before.before.before),
    )

under-root : (c : After-size) → c.size.result ≤ 1400000000 * 1400000000
under-root c = omega (arith, c.size.ensures.size, c.sum.ensures.size, total-le c.before.before)

minus : (c h : ℤ) (r : ℕ) → c *ℤ quot_z (h *ℤ neg_ℤ (pos r)) (pos 1000000000) ≡ neg_ℤ (c *ℤ quot_z (h *ℤ pos r) (pos 1000000000))
minus c h r =
    ap (λ (x : ℤ). c *ℤ quot_z x (pos 1000000000)) (mul-neg h (pos r))
    ∙ ap (λ (x : ℤ). c *ℤ x) (neg-quot (h *ℤ pos r) (pos 1000000000))
    ∙ mul-neg c (quot_z (h *ℤ pos r) (pos 1000000000))

pub returns : goal.returns
unfolding combined sum_of signed_parts int
returns c =
    let turn = c.divided.ensures.is ∙ ap (λ (x : ℤ). quot_z x (pos 1000000000)) c.product.ensures.is in
    let turned = c.product-turned.ensures.is ∙ ap (λ (x : ℤ). int c.args.p.c *ℤ x) turn
    ∙ minus (int c.args.p.c) (int c.args.p.h) c.args.r in
    let sum = c.from-sum.ensures.is ∙ ap pos c.sum_of_squares.ensures.is in
    record {
      is =
          c.isqrt.ensures.is
          ∙ ap root_of (c.size.ensures.is ∙ ap nat_abs (c.sum.ensures.is ∙ (λ i. sum i +ℤ turned i)));
      small = subst (λ (n : ℕ). n ≤ 1400000000) (sym c.isqrt.ensures.is) (root-le _ 1400000000 (under-root c.before));
    }
