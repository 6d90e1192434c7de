-- `difference::ciede2000::finish` meets its contract. Assumes nothing.
use Prim.Native.Nat.{◌+◌, ◌≤◌}
use native.Mathlib.Omega.{arith}
use Rattle.sample.specs.Sample.{Sample}
use Rattle.difference.specs.Inner.{Coloured}
use Rattle.chroma.specs.declared.Coordinates.{Coordinates}
use Rattle.difference.proofs.Pairs.{TermsIn, terms-in, finished-are, finished-of}
use Rattle.difference.proofs.ciede2000.finish.Goals as goal
use Rattle.difference.proofs.ciede2000.finish.Goals.{After-weighting_terms-terms}

sum-le : {s t : Sample} {p q : Coordinates} → Coloured s p → Coloured t q → p.chroma + q.chroma ≤ 4615105632
sum-le u v = omega (arith, u.bounded.c_le, v.bounded.c_le)

-- the sizes of the terms
terms-of : (c : After-weighting_terms-terms) → TermsIn c.weighting_terms-terms.result
terms-of c =
    terms-in _ _ _ _ c.weighting_terms-terms.ensures (c.args.s.light) (c.args.t.light) (sum-le c.requires.points.p.coloured c.requires.points.q.coloured)

pub parts-parts-requires : goal.parts-parts-requires
parts-parts-requires c =
    let l : c.natural_difference-dl.result.n ≤ 1000000 = omega
    (arith, c.natural_difference-dl.ensures.most, c.args.s.light, c.args.t.light) in
    let d : c.natural_difference-dc.result.n ≤ 2307552816 = omega
    (arith, c.natural_difference-dc.ensures.most, c.requires.points.p.coloured.bounded.c_le, c.requires.points.q.coloured.bounded.c_le) in
    let w = terms-of c.before.before.before in
    record {
      weights_in = c.requires.weights_in;
      difference_bounds = (l, (d, c.requires.hue_figures.difference_size));
      sl_bounds = omega (arith, w.sl.0, w.sl.1);
      sc_bounds = omega (arith, w.sc.0, w.sc.1);
      sh_bounds = omega (arith, w.sh.0, w.sh.1);
    }

pub root_of_parts-requires-clause-r_bound : goal.root_of_parts-requires-clause-r_bound
root_of_parts-requires-clause-r_bound c = (terms-of c.before.before.before.before).r

pub returns : goal.returns
returns c =
    finished-of _ _ _ c.args.x _ c.requires.points
    (finished-are c.args.w c.args.s c.args.t c.args.x.p c.args.x.q _ _ _ c.requires.hue_figures
    c.weighting_terms-terms.ensures
    c.natural_difference-dl.ensures.is c.natural_difference-dc.ensures.is
    c.parts-parts.ensures c.root_of_parts.ensures)
