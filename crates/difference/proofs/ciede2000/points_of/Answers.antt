-- `difference::ciede2000::points_of` meets its contract. Assumes nothing.
use mathlib.Core.Path.{◌≡◌, sym, ◌∙◌, subst}
use Prim.Native.Nat.{ℕ, ◌+◌, ◌≤◌}
use native.Mathlib.Omega.{arith}
use Rattle.sample.specs.Sample.{Sample}
use Rattle.chroma.specs.Chroma.{ratio_of}
use Rattle.chroma.proofs.ChromaLaws.{ratio-le}
use Rattle.difference.specs.Pair.{pair_ratio, primed_of}
use Rattle.difference.specs.Inner.{prepared_sample, IsPoint}
use Rattle.chroma.specs.declared.Coordinates.{Coordinates}
use Rattle.difference.proofs.Points.{chroma-is, chroma-in}
use Rattle.difference.proofs.ciede2000.points_of.Goals as goal

ratio-in : (c : goal.After-ratio-z) → c.ratio-z.result ≤ 1000000000
ratio-in c = subst (λ (n : ℕ). n ≤ 1000000000) (sym c.ratio-z.ensures) (ratio-le _)

-- Z(C1 + C2)
ratio-is : (c : goal.After-ratio-z) → c.ratio-z.result ≡ pair_ratio (prepared_sample c.args.s)
    (prepared_sample c.args.t)
unfolding pair_ratio
ratio-is c = c.ratio-z.ensures ∙ (λ i. ratio_of (chroma-is c.args.s i + chroma-is c.args.t i))

-- the point of step 3, of an equal ratio
point-of : (s : Sample) (p : Coordinates) {m n : ℕ} → m ≡ n → IsPoint s (primed_of m s) p → IsPoint s (primed_of n s) p
point-of s p e h = subst (λ (k : ℕ). IsPoint s (primed_of k s) p) e h

pub overflow_add-s : goal.overflow_add-s
overflow_add-s c = omega (arith, chroma-in c.args.s, chroma-in c.args.t)

pub ratio-z-requires : goal.ratio-z-requires
ratio-z-requires c = omega (arith, chroma-in c.args.s, chroma-in c.args.t)

pub primed-requires : goal.primed-requires
primed-requires c = ratio-in c

pub primed-requires-2 : goal.primed-requires-2
primed-requires-2 c = ratio-in c.before

pub returns : goal.returns
returns c =
    let z = ratio-is c.before.before in
    record { z = z; p = point-of _ _ z c.primed.ensures; q = point-of _ _ z c.primed-2.ensures }
