-- `difference::parts::part` meets its contract. Assumes nothing.
use mathlib.Core.Path.{ap, ◌∙◌}
use Prim.Native.Nat.{ℕ, ◌/◌}
use lib.IntN.{ℤ, pos}
use lib.Signed.{quot_z}
use Rattle.difference.specs.Parts.{part_of}
use Rattle.difference.proofs.parts.part.Goals as goal

pub returns : goal.returns
unfolding part_of
returns c = record {
  is = c.divided.ensures.is ∙ ap (λ (x : ℤ). quot_z x (pos c.args.w)) c.scaled.ensures.is;
  size = c.divided.ensures.size ∙ ap (λ (n : ℕ). n / c.args.w) c.scaled.ensures.size;
}
