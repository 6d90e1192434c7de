-- `measure::ciede2000` meets its contract. Assumes nothing.
use mathlib.Core.Path.{sym, ap, ◌∙◌}
use Rattle.std.specs.Prelude.{Ok, Err}
use Rattle.std.proofs.lemmas.Result.{err_from_is_err_and}
use Rattle.refusal.proofs.RefusalLaws.{gives-value, gives-refusal}
use Rattle.measure.specs.Answers.{double_of}
use Rattle.measure.proofs.Answering.{ciede2000-worked}
use Rattle.measure.proofs.Refusing.{with-laws}
use Rattle.measure.proofs.ciede2000.Goals as goal

pub returns-in_err-x : goal.returns-in_err-x
returns-in_err-x c =
    let p = err_from_is_err_and c.from_residual.result c.from_residual.ensures.1 in
    let laws = with-laws {r = Err c.in_err-x.field-0.0} _ _ _ (gives-refusal _ _ c.in_err-x.ensures.refusal) in
    rw (p.1, p.2) (record { is = laws.0; symmetric = laws.1.0; zero = laws.1.1 })

pub returns : goal.returns
returns c =
    let value = c.double.ensures ∙ ap double_of (ciede2000-worked _ _ _ c.in_ok-x.ensures.accepted c.ciede2000.ensures) in
    let laws = with-laws {r = Ok c.double.result} _ _ _ (gives-value (sym c.in_ok-x.ensures.refusal) value) in
    record { is = laws.0; symmetric = laws.1.0; zero = laws.1.1 }
