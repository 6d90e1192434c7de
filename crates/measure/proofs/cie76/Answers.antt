-- `measure::cie76` meets its contract. Assumes nothing.
use mathlib.Core.Path.{sym, ap, ◌∙◌}
use Rattle.std.proofs.lemmas.Result.{err_from_is_err_and}
use Rattle.refusal.proofs.RefusalLaws.{first-none, gives-value, gives-refusal}
use Rattle.difference.specs.Cie76.{cie76_of}
use Rattle.measure.specs.Answers.{double_of}
use Rattle.measure.proofs.Refusing.{pair_is}
use Rattle.measure.proofs.cie76.Goals as goal

pub returns-in_err-check_pair : goal.returns-in_err-check_pair
returns-in_err-check_pair c =
    let p = err_from_is_err_and c.from_residual.result c.from_residual.ensures.1 in
    rw (p.1, p.2) (gives-refusal _ _ c.in_err-check_pair.ensures)

pub fixed_reading-s-requires : goal.fixed_reading-s-requires
fixed_reading-s-requires c = (first-none _ _ (pair_is _ _ ∙ sym c.in_ok-check_pair.ensures)).0

pub fixed_reading-t-requires : goal.fixed_reading-t-requires
fixed_reading-t-requires c = (first-none _ _ (pair_is _ _ ∙ sym c.in_ok-check_pair.ensures)).1

pub returns : goal.returns
returns c =
    gives-value (sym c.in_ok-check_pair.ensures)
    (c.double.ensures ∙ ap double_of (c.cie76.ensures.is ∙ (λ i. cie76_of (c.fixed_reading-s.ensures i) (c.fixed_reading-t.ensures i))))
