-- `text::start` meets its contract. Assumes nothing.
use mathlib.Core.Path.{refl}
use Rattle.text.specs.Stream.{held_after, state_of}
use Rattle.text.proofs.start.Goals as goal

pub returns : goal.returns
unfolding held_after state_of
returns c = refl
