-- `measure::check_pair` meets its contract. Assumes nothing.
use mathlib.Core.Path.{sym, ap, ◌∙◌}
use Prim.Native.Nat.{ℕ}
use Rattle.std.proofs.lemmas.Result.{err_from_is_err_and}
use Rattle.refusal.specs.Refusals.{first_of}
use Rattle.fixed_point.specs.Refusals.{reading_refusal}
use Rattle.measure.proofs.Refusing.{first-sample, pair_is}
use Rattle.measure.proofs.check_pair.Goals as goal

pub returns-in_err-check_reading : goal.returns-in_err-check_reading
returns-in_err-check_reading c =
    let p = err_from_is_err_and c.from_residual.result c.from_residual.ensures.1 in
    rw (p.1, p.2) (sym (first-sample _ _ _ c.in_err-check_reading.ensures))

pub returns : goal.returns
returns c =
    c.check_reading-2.ensures ∙ ap (λ (n : ℕ). first_of n (reading_refusal c.args.sample)) c.in_ok-check_reading.ensures ∙ pair_is _ _
