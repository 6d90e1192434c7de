-- `near::distance_square` meets its contract: no product wraps. Assumes nothing.
use mathlib.Core.Path.{ap, ◌∙◌}
use Prim.Native.Nat.{◌+◌, ◌*◌}
use lib.IntN.{nat_abs}
use Rattle.sample.specs.Inner.{lab_of}
use Rattle.difference.specs.Parts.{squared}
use Rattle.near.specs.Inner.{distance_square}
use Rattle.near.proofs.distance_square.Goals as goal
use Rattle.near.proofs.distance_square.Goals.{After-size-a, After-size-b}

pub returns : goal.returns
unfolding distance_square squared lab_of
returns c =
    let a = c.size-a.ensures.is ∙ ap nat_abs c.difference.ensures.is in
    let b = c.size-b.ensures.is ∙ ap nat_abs c.difference-2.ensures.is in
    λ i. a i * a i + b i * b i
