-- `difference::cie94::parts94` meets its contract. Assumes nothing.
use mathlib.Core.Path.{◌∙◌}
use Prim.Native.Nat.{◌≤◌}
use native.Mathlib.Omega.{arith}
use lib.IntN.{pos, ◌-ℤ◌}
use Rattle.difference.specs.Parts.{parts_of}
use Rattle.difference.specs.Pair.{plain_of, lightness_difference, chroma_difference}
use Rattle.difference.specs.Cie94.{weighting_chroma, weighting_function, parts94_of}
use Rattle.difference.specs.Inner.{prepared_sample}
use Rattle.difference.proofs.Points.{chroma-is, chroma-in}
use Rattle.difference.proofs.cie94.parts94.Goals as goal

pub weighting_chroma-chroma-requires : goal.weighting_chroma-chroma-requires
weighting_chroma-chroma-requires c =
    let c1 = chroma-in c.args.s in
    let c2 = chroma-in c.args.t in
    record { c1_bound = omega (arith, c1, c2); c2_bound = omega (arith, c1, c2) }

pub parts-requires : goal.parts-requires
parts-requires c =
    let l : c.natural_difference-l.result.n ≤ 1000000 = omega
    (arith, c.natural_difference-l.ensures.most, c.args.s.light, c.args.t.light) in
    let dc : c.natural_difference-c.result.n ≤ 2307552816 = omega
    (arith, c.natural_difference-c.ensures.most, chroma-in c.args.s, chroma-in c.args.t) in
    record {
      weights_in = c.requires.weights_in;
      difference_bounds = (l, (dc, c.hue_difference94-h.ensures.size));
      sl_bounds = omega arith;
      sc_bounds = (c.weighting_function-sc.ensures.low, c.weighting_function-sc.ensures.high);
      sh_bounds = (c.weighting_function-sh.ensures.low, c.weighting_function-sh.ensures.high);
    }

pub returns : goal.returns
unfolding parts94_of lightness_difference chroma_difference plain_of prepared_sample
returns c =
    let chroma = c.weighting_chroma-chroma.ensures.is ∙ (λ i. weighting_chroma c.args.comparison (chroma-is c.args.s i) (chroma-is c.args.t i)) in
    record {
      is = c.parts.ensures.is
          ∙ (λ i. parts_of c.args.w (c.natural_difference-l.ensures.is i)
          ((c.natural_difference-c.ensures.is ∙ (λ j. pos (chroma-is c.args.t j) -ℤ pos (chroma-is c.args.s j))) i)
          (c.hue_difference94-h.ensures.is i) 1000000000
          ((c.weighting_function-sc.ensures.is ∙ (λ j. weighting_function (c.chroma_constant.ensures j) (chroma j))) i)
          ((c.weighting_function-sh.ensures.is ∙ (λ j. weighting_function (c.hue_constant.ensures j) (chroma j))) i));
      small = c.parts.ensures.small;
    }
