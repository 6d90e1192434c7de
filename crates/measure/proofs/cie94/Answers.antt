-- `measure::cie94` meets its contract. Assumes nothing.
use mathlib.Core.Path.{sym, ap, ◌∙◌}
use Rattle.std.proofs.lemmas.Result.{err_from_is_err_and}
use Rattle.refusal.proofs.RefusalLaws.{gives-value, gives-refusal}
use Rattle.difference.specs.Cie94.{cie94_of}
use Rattle.measure.specs.Answers.{double_of}
use Rattle.measure.proofs.Refusing.{with-exchange}
use Rattle.measure.proofs.cie94.Goals as goal

pub returns-in_err-x : goal.returns-in_err-x
returns-in_err-x c =
    let p = err_from_is_err_and c.from_residual.result c.from_residual.ensures.1 in
    let refused = gives-refusal _ _ c.in_err-x.ensures.refusal in
    let both = with-exchange c.args.application c.args.comparison c.args.weights c.args.first c.args.second refused in
    rw (p.1, p.2) (record { is = both.0; symmetric = both.1 })

pub returns : goal.returns
returns c =
    let x = c.in_ok-x.ensures.accepted in
    let is = c.cie94.ensures.is ∙ (λ i. cie94_of c.args.application c.args.comparison (x.weights i) (x.first i) (x.second i)) in
    let both =
    with-exchange c.args.application c.args.comparison c.args.weights c.args.first c.args.second
    (gives-value (sym c.in_ok-x.ensures.refusal) (c.double.ensures ∙ ap double_of is)) in
    record { is = both.0; symmetric = both.1 }
