-- `near::chroma_most` meets its contract: no product wraps. Assumes nothing.
use mathlib.Core.Path.{◌∙◌}
use Prim.Native.Nat.{◌+◌, ◌*◌, ◌≤◌, max}
use native.Mathlib.Nat.{mul-le-mul}
use native.Mathlib.Omega.{arith}
use Rattle.sample.specs.Inner.{lab_of}
use Rattle.near.specs.Inner.{chroma_most}
use Rattle.near.proofs.chroma_most.Goals as goal
use Rattle.near.proofs.chroma_most.Goals.{After-size, After-size-b}

first : (c : After-size) → c.size.result ≤ 1280000
first c = omega (arith, c.args.s.a_within, c.size.ensures.size)

second : (c : After-size-b) → c.size-b.result ≤ 1280000
second c = omega (arith, c.args.s.b_within, c.size-b.ensures.size)

pub returns : goal.returns
unfolding chroma_most lab_of
returns c =
    record {
      is =
          c.max.ensures
          ∙ (λ i. max (2 * (c.args.f * c.size.ensures.is i) + 500 * c.size-b.ensures.is i) (c.args.f * c.size.ensures.is i + 2 * (500 * c.size-b.ensures.is i)));
      size = omega (arith, c.max.ensures, second c.before, mul-le-mul c.requires (first c.before.before.before));
    }
