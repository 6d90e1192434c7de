-- `difference::ciede2000::weighting_terms` meets its contract. Assumes nothing.
use mathlib.Core.Path.{ap, ◌∙◌}
use Prim.Native.Nat.{ℕ}
use native.Mathlib.Nat.{le_trans, le_of_eq}
use Rattle.chroma.proofs.ChromaLaws.{ratio-le}
use Rattle.weighting.specs.Weighting.{hue_weight, rotation}
use Rattle.weighting.proofs.WeightingLaws.{hue_term-le}
use Rattle.difference.specs.Pair.{terms_of}
use Rattle.difference.proofs.ciede2000.weighting_terms.Goals as goal

pub hue_weight-requires-clause-t_bound : goal.hue_weight-requires-clause-t_bound
hue_weight-requires-clause-t_bound c = le_trans (le_of_eq c.hue_term-t.ensures) (hue_term-le _)

pub rotation_term-requires : goal.rotation_term-requires
rotation_term-requires c = le_trans (le_of_eq c.ratio.ensures) (ratio-le _)

pub returns : goal.returns
unfolding terms_of
returns c =
    λ i. record {
      t = c.hue_term-t.ensures i;
      sl = c.lightness_weight.ensures i;
      sc = c.chroma_weight.ensures i;
      sh = (c.hue_weight.ensures ∙ ap (λ (n : ℕ). hue_weight c.args.sum n) c.hue_term-t.ensures) i;
      r = (c.rotation_term.ensures ∙ ap (λ (n : ℕ). rotation n c.args.mean) c.ratio.ensures) i;
    }
