-- `difference::parts::parts` meets its contract. Assumes nothing.
use mathlib.Core.Path.{ap, ◌∙◌}
use Prim.Native.Nat.{ℕ}
use native.Mathlib.Nat.{le_trans, le_of_eq}
use native.Mathlib.Omega.{arith}
use Rattle.signed.specs.Inner.{int}
use Rattle.difference.specs.Parts.{part_of, parts_of}
use Rattle.difference.specs.Inner.{signed_parts}
use Rattle.difference.proofs.Sizes.{quotient_le}
use Rattle.difference.proofs.parts.parts.Goals as goal

pub returns : goal.returns
unfolding parts_of signed_parts
returns c =
    record {
      is = λ i. record {
        l = (c.part.ensures.is ∙ ap
            (λ (w : ℕ). part_of (int c.args.dl) 100000000000 w)
            c.weight.ensures.0) i;
        c = (c.part-2.ensures.is ∙ ap (λ (w : ℕ). part_of (int c.args.dc) 100000000 w)
            c.weight-2.ensures.0) i;
        h = (c.part-3.ensures.is ∙ ap (λ (w : ℕ). part_of (int c.args.dh) 100000000 w) c.weight-3.ensures.0) i;
      };
      small = record {
        l = le_trans (le_of_eq c.part.ensures.size)
            (quotient_le _ _ 200000000 500000000
            (omega (arith, c.weight.ensures.1))
            c.weight.ensures.1 (omega (arith, c.requires.difference_bounds.0)));
        c = le_trans (le_of_eq c.part-2.ensures.size)
            (quotient_le _ _ 461510564 500000000 (omega (arith, c.weight-2.ensures.1))
            c.weight-2.ensures.1 (omega (arith, c.requires.difference_bounds.1.0)));
        h = le_trans (le_of_eq c.part-3.ensures.size)
            (quotient_le _ _ 923021127 500000000 (omega (arith, c.weight-3.ensures.1))
            c.weight-3.ensures.1 (omega (arith, c.requires.difference_bounds.1.1)));
      };
    }
