-- `measure::verdict` meets its contract. Assumes nothing.
use mathlib.Core.Path.{◌≡◌, sym, ap, subst, ◌∙◌}
use native.Mathlib.Omega.{arith}
use Rattle.std.proofs.lemmas.Grind.{common_steps}
use Rattle.refusal.proofs.RefusalLaws.{gives-value}
use Rattle.sample.specs.Inner.{WeightsIn}
use Rattle.fixed_point.specs.Rounding.{fixed_size}
use Rattle.fixed_point.proofs.FixedLaws.{weights_in}
use Rattle.difference.specs.Ciede2000.{ciede2000_of}
use Rattle.difference.specs.Verdict.{within_tolerance}
use Rattle.measure.specs.Answers.{double_of}
use Rattle.measure.specs.Calls.{verdict_refusal}
use Rattle.measure.proofs.Refusing.{weighted-is, verdict-is}
use Rattle.measure.proofs.verdict.Goals as goal

pub of-x-requires-clause-weights_in : goal.of-x-requires-clause-weights_in
of-x-requires-clause-weights_in c = subst WeightsIn (sym c.fixed_weights.ensures) (weights_in _ (sym c.in_ok-check_weights.ensures))

pub returns : goal.returns
returns c =
    let none : verdict_refusal c.args.standard c.args.sample c.args.weights c.args.tolerance ≡ 0 =
    rw (← verdict-is _ _ _ _, ← weighted-is _ _ _) (grind (arith, common_steps)) in
    let within : c.within_tolerance.result ≡ within_tolerance c.ciede2000-n.result (fixed_size c.args.tolerance) = grind (arith, common_steps) in
    let x = c.of-x.ensures in
    let is = c.ciede2000-n.ensures.is ∙ (λ i. ciede2000_of ((x.weights ∙ c.fixed_weights.ensures) i) (x.first i) (x.second i)) in
    gives-value none (λ i. record { difference = (c.double.ensures ∙ ap double_of is) i; within = (within ∙ (λ j. within_tolerance (is j) (fixed_size c.args.tolerance))) i })
