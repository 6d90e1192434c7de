-- `difference::parts::sum_of_squares` meets its contract. Assumes nothing.
use mathlib.Core.Path.{◌≡◌, refl, sym, ap}
use Prim.Native.Nat.{ℕ, ◌+◌, ◌*◌}
use Rattle.signed.specs.Inner.{int}
use Rattle.signed.specs.declared.Int.{Int}
use Rattle.signed.proofs.SignedLaws.{int-size}
use Rattle.difference.specs.Parts.{squared}
use Rattle.difference.proofs.parts.sum_of_squares.Goals as goal

squares : (x : Int) → x.n * x.n ≡ squared (int x)
unfolding squared
squares x = ap (λ (n : ℕ). n * n) (sym (int-size x))

pub returns : goal.returns
returns c = record {
  is = λ i. squares c.args.x i + squares c.args.y i + squares
      c.args.z i;
  size = refl;
}
