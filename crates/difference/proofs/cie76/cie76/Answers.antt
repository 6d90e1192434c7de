-- `difference::cie76::cie76` meets its contract. Assumes nothing.
use Rattle.isqrt.proofs.RootLaws.{root-le}
use mathlib.Core.Path.{sym, ap, ◌∙◌, subst}
use Prim.Native.Nat.{ℕ, ◌+◌, ◌*◌, ◌≤◌}
use native.Mathlib.Omega.{arith}
use Rattle.isqrt.specs.Root.{root_of}
use Rattle.sample.specs.Inner.{lab_of}
use Rattle.difference.specs.Parts.{squared}
use Rattle.difference.specs.Pair.{lightness_difference}
use Rattle.difference.specs.Cie76.{cie76_of}
use Rattle.signed.proofs.Squares.{square_le}
use Rattle.difference.proofs.cie76.cie76.Goals as goal

sizes : (c : goal.After-difference-b) → (c.natural_difference-l.result.n ≤ 1000000) ×
    (c.difference-a.result.n ≤ 2560000) × (c.difference-b.result.n ≤ 2560000)
sizes c = (
  omega (arith, c.natural_difference-l.ensures.most, c.args.s.l_within, c.args.t.l_within),
  omega (arith, c.difference-a.ensures.size, c.args.s.a_within, c.args.t.a_within),
  omega (arith, c.difference-b.ensures.size, c.args.s.b_within, c.args.t.b_within),
)

under-root : (c : goal.After-sum_of_squares) → 10000 * c.sum_of_squares.result ≤ 1400000000 * 1400000000
under-root c =
    let h = sizes c.before in
    omega (arith, c.sum_of_squares.ensures.size, square_le h.0, square_le h.1, square_le h.2)

pub difference-a-requires : goal.difference-a-requires
difference-a-requires c = omega (arith, c.args.s.a_within, c.args.t.a_within)

pub difference-b-requires : goal.difference-b-requires
difference-b-requires c = omega (arith, c.args.s.b_within, c.args.t.b_within)

pub sum_of_squares-requires : goal.sum_of_squares-requires
sum_of_squares-requires c = let h = sizes c in omega arith

pub overflow_mul-sum_of_squares : goal.overflow_mul-sum_of_squares
overflow_mul-sum_of_squares c = omega (arith, under-root c)

pub returns : goal.returns
unfolding cie76_of lightness_difference lab_of
returns c =
    record {
      is =
          c.isqrt.ensures.is
          ∙ ap (λ (n : ℕ). root_of (10000 * n)) c.sum_of_squares.ensures.is
          ∙ (λ i. root_of (10000 * (squared (c.natural_difference-l.ensures.is i) + squared
          (c.difference-a.ensures.is i) + squared (c.difference-b.ensures.is i))));
      small = subst (λ (n : ℕ). n ≤ 1400000000) (sym c.isqrt.ensures.is) (root-le _ 1400000000 (under-root c.before));
    }
