-- `measure::many::two_answers` meets its contract. Assumes nothing.
use mathlib.Core.Path.{sym, ap, ◌∙◌}
use Rattle.std.specs.Prelude.{◌≡◌, Ok}
use Rattle.std.proofs.lemmas.Result.{IfOk-at_ok}
use Rattle.refusal.specs.Refusals.{refused_with}
use Rattle.measure.specs.Inner.{IsAccepted}
use Rattle.measure.proofs.Answering.{rounded-worked, accepted-rounded}
use Rattle.measure.proofs.many.two_answers.Goals as goal

pub returns-in_default-clause-first : goal.returns-in_default-clause-first
returns-in_default-clause-first c =
    c.answer.ensures ∙ accepted-rounded _ _ _ _ c.accepted-first.ensures.refusal c.accepted-first.ensures.accepted

pub returns-in_default-clause-second : goal.returns-in_default-clause-second
returns-in_default-clause-second c =
    c.answer-in_default.ensures ∙ accepted-rounded _ _ _ _ c.accepted-second.ensures.refusal c.accepted-second.ensures.accepted

pub returns-clause-first : goal.returns-clause-first
returns-clause-first c =
    let p = IfOk-at_ok (λ a. (c.args.weights ≡ Ok a.w) × IsAccepted c.args.x.s c.args.x.t a.w a) c.in-Ok-Ok.is-0 c.accepted-first.ensures.accepted in
    rounded-worked _ _ _ _ (ap refused_with (sym c.in-Ok-Ok.is-0) ∙ c.accepted-first.ensures.refusal) p.0 p.1.first p.1.second
    c.ciede2000_two-two.ensures.first c.double.ensures

pub returns-clause-second : goal.returns-clause-second
returns-clause-second c =
    let p = IfOk-at_ok (λ a. (c.args.weights ≡ Ok a.w) × IsAccepted c.args.x.s c.args.x.t a.w a) c.in-Ok-Ok.is-0 c.accepted-first.ensures.accepted in
    let q = IfOk-at_ok (λ a. (c.args.weights ≡ Ok a.w) × IsAccepted c.args.y.s c.args.y.t a.w a) c.in-Ok-Ok.is-1 c.accepted-second.ensures.accepted in
    rounded-worked _ _ _ _ (ap refused_with (sym c.in-Ok-Ok.is-1) ∙ c.accepted-second.ensures.refusal) p.0 q.1.first q.1.second
    c.ciede2000_two-two.ensures.second c.double-2.ensures
