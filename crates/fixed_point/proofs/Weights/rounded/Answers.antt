-- `fixed_point::Weights::rounded` meets its contract. Assumes nothing.
use Rattle.std.proofs.Common.{sym, subst}
use Rattle.sample.specs.Inner.{WeightsIn}
use Rattle.fixed_point.proofs.FixedLaws.{weights_in}
use Rattle.fixed_point.proofs.Weights.rounded.Goals as goal

pub returns-clause-within : goal.returns-clause-within
returns-clause-within c = subst WeightsIn (sym c.fixed_weights.ensures) (weights_in _ (sym c.in_ok-check_weights.ensures))
