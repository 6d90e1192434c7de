-- `isqrt::isqrt` meets its contract. Assumes nothing.
use mathlib.Core.Path.{sym, ◌∙◌}
use borrow.Author.Tests.{eqb-true}
use Rattle.isqrt.proofs.RootLaws.{root-square-le, root-lt-next}
use Rattle.isqrt.proofs.isqrt.Goals as goal

pub returns-then-is_root : goal.returns-then-is_root
returns-then-is_root c =
    let e = eqb-true _ _ (sym c.is_root.ensures ∙ c.if-is_root.true) in
    record { is = e; largest = (rw e (root-square-le _), rw e (root-lt-next _)) }

pub returns-clause-largest : goal.returns-clause-largest
returns-clause-largest c =
    let e = c.by_bits.ensures in
    (rw e (root-square-le _), rw e (root-lt-next _))
