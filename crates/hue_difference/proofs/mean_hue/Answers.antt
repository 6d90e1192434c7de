-- `hue_difference::mean_hue` meets its contract. Assumes nothing.
use borrow.Author.Tests.{lt-ltb, le-ltb}
use Rattle.hue_difference.specs.HueDifference.{mean_hue_of}
use Rattle.hue_difference.proofs.mean_hue.Goals as goal

pub returns-then-side : goal.returns-then-side
unfolding mean_hue_of
returns-then-side c = rw c.if-side.true

pub returns-then-sum-lt-TURN : goal.returns-then-sum-lt-TURN
unfolding mean_hue_of
returns-then-sum-lt-TURN c = rw (c.if-side.false, c.if-side-2.true, lt-ltb _ _ c.if-sum-lt-TURN.true)

pub returns-then-side-2 : goal.returns-then-side-2
unfolding mean_hue_of
returns-then-side-2 c = rw (c.if-side.false, c.if-side-2.true, le-ltb _ _ c.if-sum-lt-TURN.false)

pub returns : goal.returns
unfolding mean_hue_of
returns c = rw (c.if-side.false, c.if-side-2.false)
