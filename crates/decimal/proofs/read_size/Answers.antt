-- `decimal::read_size` meets its contract. Assumes nothing.
use mathlib.Core.Path.{ap, ◌∙◌}
use Prim.Native.Nat.{ℕ, ◌+◌, ◌*◌, ◌<◌}
use native.Mathlib.Nat.{add-zero}
use native.Mathlib.Omega.{arith}
use Rattle.signed.specs.Value.{with_sign}
use Rattle.signed.specs.Inner.{int}
use Rattle.decimal.specs.Reading.{found}
use Rattle.decimal.specs.Inner.{decimal_found}
use Rattle.decimal.proofs.ReadingLaws.{digits-below, fraction-below, fraction-absent, fraction-empty, fraction-some, whole-empty, whole-some}
use Rattle.decimal.proofs.read_size.Goals as goal

pub returns-in_err-whole-clause-value : goal.returns-in_err-whole-clause-value
returns-in_err-whole-clause-value c =
    ap decimal_found c.from_residual.ensures ∙ whole-empty _ c.args.neg c.in_err-whole.ensures

pub returns-in_default-clause-value : goal.returns-in_default-clause-value
unfolding int
returns-in_default-clause-value c =
    let z = fraction-absent _ c.in_default.ensures in
    rw add-zero at (whole-some c.args.s.now c.args.neg c.in_ok-whole.whole c.in_ok-whole.ensures.0.is c.in_ok-whole.ensures.1 z)

pub returns-in_err-part-clause-value : goal.returns-in_err-part-clause-value
returns-in_err-part-clause-value c =
    let z = fraction-empty _ c.in-Some.ensures.0 c.in-Some.ensures.1 c.in_err-part.ensures in
    ap decimal_found c.from_residual-in_err-part.ensures
    ∙ whole-some c.args.s.now c.args.neg c.in_ok-whole.whole c.in_ok-whole.ensures.0.is c.in_ok-whole.ensures.1 z

pub returns-clause-value : goal.returns-clause-value
unfolding int
returns-clause-value c =
    let z = fraction-some _ c.in-Some.ensures.0 c.in-Some.ensures.1 c.in_ok-part.part c.in_ok-part.ensures.0.is c.in_ok-part.ensures.1 in
    ap
    (λ (p : ℕ). found (with_sign c.args.neg (c.in_ok-whole.whole.value * 10000 + c.in_ok-part.part.value * p)) c.in_ok-part.part.rest.now)
    c.pow.ensures
    ∙ whole-some c.args.s.now c.args.neg c.in_ok-whole.whole c.in_ok-whole.ensures.0.is c.in_ok-whole.ensures.1 z

pub returns-clause-size : goal.returns-clause-size
returns-clause-size c =
    let whole = c.in_ok-whole.ensures.0 in
    let part = c.in_ok-part.ensures.0 in
    let f : c.in_ok-part.part.value * c.pow.result < 10000 = rw c.pow.ensures (fraction-below _ _ part.small part.few) in
    omega (arith, digits-below 3 whole.small whole.few)
