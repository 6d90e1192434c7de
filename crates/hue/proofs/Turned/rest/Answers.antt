-- `hue::Turned::rest` meets its contract: the difference is not below 0, and at most 10^9 times the chroma.
-- Assumes nothing.
use mathlib.Core.Path.{◌∙◌}
use native.Mathlib.Nat.{min_comm}
use Rattle.hue.specs.Hue.{rest_of}
use Rattle.hue.proofs.Halving.{reached-le}
use Rattle.hue.proofs.Turned.rest.Goals as goal

pub overflow_sub-v : goal.overflow_sub-v
overflow_sub-v c = reached-le _ _ _ c.requires.1 c.entry-2.ensures.is c.entry.ensures.is

pub returns : goal.returns
unfolding rest_of
returns c = cc (c.min.ensures ∙ min_comm _ _)
