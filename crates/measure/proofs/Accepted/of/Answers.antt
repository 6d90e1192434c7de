-- `measure::Accepted::of` meets its contract. Assumes nothing.
use mathlib.Core.Path.{◌∙◌}
use Rattle.refusal.proofs.RefusalLaws.{first-none}
use Rattle.measure.proofs.Refusing.{pair_is}
use Rattle.measure.proofs.Accepted.of.Goals as goal

pub fixed_reading-requires : goal.fixed_reading-requires
fixed_reading-requires c = (first-none _ _ (pair_is _ _ ∙ c.requires.pair_accepted)).0

pub fixed_reading-requires-2 : goal.fixed_reading-requires-2
fixed_reading-requires-2 c = (first-none _ _ (pair_is _ _ ∙ c.requires.pair_accepted)).1
