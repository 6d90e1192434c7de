-- `difference::ciede2000::hue_figures` meets its contract. Assumes nothing.
use mathlib.Core.Path.{◌≡◌, refl, sym, subst}
use Prim.Native.Nat.{ℕ, ◌≤◌, ◌<◌}
use native.Mathlib.Omega.{arith}
use Rattle.std.specs.declared.cmp.Ordering.TheVariants.{Equal}
use Rattle.signed.specs.Inner.{int}
use Rattle.chroma.specs.declared.Coordinates.{Coordinates}
use Rattle.hue.specs.Hue.{hue_of}
use Rattle.hue.proofs.HueLaws.{hue-lt}
use Rattle.hue_difference.specs.HueDifference.{hue_size, mean_hue_of}
use Rattle.hue_difference.specs.Inner.{with_order}
use Rattle.hue_difference.proofs.HueDifferenceLaws.{mean-hue-lt-twice}
use Rattle.difference.specs.Pair.{point_hue, pair_far}
use Rattle.difference.specs.Inner.{prepared_sample, point_of}
use Rattle.difference.proofs.Pairs.{both-coloured, pair_hue_difference-is, pair-mean-is}
use Rattle.difference.proofs.ciede2000.hue_figures.Goals as goal

hue-under : (p : Coordinates) {r : ℕ} → r ≡ hue_of (int p.a) (int p.b) p.chroma → r < 360000000
hue-under p e = subst (λ (n : ℕ). n < 360000000) (sym e) (hue-lt (int p.a) (int p.b) p.chroma)

pub hue_difference-requires : goal.hue_difference-requires
hue_difference-requires c =
    let p = c.requires.p.coloured in
    let q = c.requires.q.coloured in
    let apart : (c.side_of-side.result.sign ≡ Equal → ⊥) → (1000 ≤ c.args.x.p.chroma) × (1000 ≤ c.args.x.q.chroma) =
    both-coloured c.args.s c.args.t _ _ _ c.side_of-side.ensures p q in
    record { first_primed = p.bounded; second_primed = q.bounded; not_grey = grind arith }

pub mean_hue-requires : goal.mean_hue-requires
mean_hue-requires c = (hue-under c.args.x.p c.hue-h1.ensures, hue-under c.args.x.q c.hue-h2.ensures)

pub returns : goal.returns
unfolding point_hue point_of pair_far prepared_sample
returns c =
    let p = c.args.x.p in
    let q = c.args.x.q in
    let side = c.side_of-side.ensures in
    -- the hue difference of the side's own sign, and the mean hue of its own flags
    let hue : int c.hue_difference.result
    ≡ with_order c.side_of-side.result.sign (hue_size (int p.a) (int p.b) p.chroma (int q.a) (int q.b) q.chroma) =
    grind arith in
    let mean : c.mean_hue.result ≡ mean_hue_of c.side_of-side.result.grey c.side_of-side.result.far c.hue-h1.result c.hue-h2.result =
    grind arith in
    record {
      h1 = c.hue-h1.ensures;
      h2 = c.hue-h2.ensures;
      far = side.far_is;
      difference = pair_hue_difference-is c.args.s c.args.t p q _ side refl refl _ hue;
      difference_size = c.hue_difference.ensures.size;
      mean = pair-mean-is c.args.s c.args.t _ _ _ side _ _ _ c.hue-h1.ensures c.hue-h2.ensures mean;
      mean_size = subst (λ (n : ℕ). n < 720000000) (sym mean)
          (mean-hue-lt-twice _ _ _ _ (hue-under p c.hue-h1.ensures) (hue-under q c.hue-h2.ensures));
    }
