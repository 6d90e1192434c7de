-- `isqrt_c::isqrt_estimate_c` meets its contract. Assumes nothing.
use mathlib.Core.Path.{refl}
use mathlib.Core.Logic.{inl, inr}
use borrow.Author.Rules.{rules}
use Rattle.isqrt_c.proofs.isqrt_estimate_c.Goals as goal

pub returns-then-estimate-root : goal.returns-then-estimate-root
returns-then-estimate-root c = inl (search rules)

pub returns : goal.returns
returns c = inr refl
