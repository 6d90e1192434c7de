-- `difference::cie94::weighting_chroma` meets its contract. Assumes nothing.
use mathlib.Core.Path.{sym, ap, ◌∙◌}
use native.Mathlib.Nat.{mul-le-mul, le_trans, le_of_eq}
use Rattle.isqrt.proofs.RootLaws.{root-le}
use Rattle.difference.specs.Cie94.{weighting_chroma}
use Rattle.difference.specs.declared.cie94.Comparison.{Comparison}
use Rattle.difference.proofs.cie94.weighting_chroma.Goals as goal

pub returns-in-WithStandard : goal.returns-in-WithStandard
unfolding weighting_chroma
returns-in-WithStandard c =
    record { is = sym (ap (λ (x : Comparison). weighting_chroma x c.args.c1 c.args.c2) c.in-WithStandard.is); high = c.requires.c1_bound }

pub returns-in-WithoutStandard : goal.returns-in-WithoutStandard
unfolding weighting_chroma
returns-in-WithoutStandard c =
    record {
      is = c.geometric_mean.ensures ∙ sym (ap (λ (x : Comparison). weighting_chroma x c.args.c1 c.args.c2) c.in-WithoutStandard.is);
      high = le_trans (le_of_eq c.geometric_mean.ensures) (root-le _ 1810193359 (mul-le-mul c.requires.c1_bound c.requires.c2_bound));
    }
