-- `near::extent` meets its contract. Assumes nothing.
use mathlib.Core.Path.{◌∙◌}
use Prim.Native.Nat.{max}
use native.Mathlib.Omega.{arith}
use Rattle.sample.specs.Inner.{lab_of}
use Rattle.near.specs.Inner.{extent}
use Rattle.near.proofs.extent.Goals as goal

pub returns : goal.returns
unfolding extent lab_of
returns c =
    record {
      is = c.max.ensures ∙ (λ i. max (c.size.ensures.is i) (c.size-2.ensures.is i));
      size = omega (arith, c.args.s.a_within, c.args.s.b_within, c.size.ensures.size, c.size-2.ensures.size, c.max.ensures);
    }
