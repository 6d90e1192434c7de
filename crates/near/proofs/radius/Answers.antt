-- `near::radius` meets its contract: no product wraps. Assumes nothing.
use Prim.Native.Nat.{◌+◌, ◌*◌, ◌/◌, ◌≤◌}
use native.Mathlib.Omega.{arith}
use Rattle.near.specs.Inner.{radius_of, allowance}
use Rattle.near.proofs.Sizes.{product-fits}
use Rattle.near.proofs.radius.Goals as goal
use Rattle.near.proofs.radius.Goals.{After-weight_most}

fits : (c : After-weight_most)
    → (c.parts_most.result * c.args.k / 10000 + 1) * c.weight_most.result ≤ 34432750763781
fits c = product-fits _ _ c.parts_most.ensures.size c.requires.weight_in.high _ c.weight_most.ensures.size

pub returns : goal.returns
unfolding radius_of allowance
returns c =
    record {
      is = λ i. (c.parts_most.ensures.is i * c.args.k / 10000 + 1) * c.weight_most.ensures.is i / 100000 + 119;
      size = omega (arith, fits c);
    }
