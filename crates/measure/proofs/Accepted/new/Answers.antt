-- `measure::Accepted::new` meets its contract. Assumes nothing.
use mathlib.Core.Path.{sym, ap, ◌∙◌}
use Prim.Native.Nat.{ℕ}
use Rattle.std.proofs.lemmas.Result.{err_from_is_err_and}
use Rattle.refusal.specs.Refusals.{first_of}
use Rattle.refusal.proofs.RefusalLaws.{first-refused}
use Rattle.fixed_point.specs.Refusals.{weights_refusal}
use Rattle.measure.proofs.Refusing.{weighted-is}
use Rattle.measure.proofs.Accepted.new.Goals as goal

pub returns-in_err-check_pair-clause-refusal : goal.returns-in_err-check_pair-clause-refusal
returns-in_err-check_pair-clause-refusal c =
    let p = err_from_is_err_and c.from_residual.result c.from_residual.ensures.1 in
    rw (p.1, p.2) (sym (first-refused _ _ c.in_err-check_pair.ensures) ∙ weighted-is _ _ _)

pub returns-in_err-rounded-clause-refusal : goal.returns-in_err-rounded-clause-refusal
returns-in_err-rounded-clause-refusal c =
    let p = err_from_is_err_and c.from_residual-in_err-rounded.result c.from_residual-in_err-rounded.ensures.1 in
    rw (p.1, p.2)
    (c.in_err-rounded.ensures.refusal ∙ ap (λ (n : ℕ). first_of n (weights_refusal c.args.weights)) c.in_ok-check_pair.ensures ∙ weighted-is _ _ _)

pub returns-clause-refusal : goal.returns-clause-refusal
returns-clause-refusal c =
    c.in_ok-rounded.ensures.refusal ∙ ap (λ (n : ℕ). first_of n (weights_refusal c.args.weights)) c.in_ok-check_pair.ensures ∙ weighted-is _ _ _
