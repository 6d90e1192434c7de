-- `sine::half` meets its contract: sin (180° - x) = sin x.
-- Assumes nothing.
use mathlib.Core.Path.{ap, ◌∙◌}
use borrow.Author.Tests.{le-leb, lt-leb}
use Rattle.sine.specs.Sine.{sine_quarter, sine_half}
use Rattle.sine.proofs.half.Goals as goal
use Rattle.sine.proofs.half.Goals.{then-angle-le-QUARTER_TURN, else-angle-le-QUARTER_TURN}

pub returns : goal.returns
unfolding sine_half
returns c =
    elim c.if-angle-le-QUARTER_TURN.branch [
      | then-angle-le-QUARTER_TURN w ↦ rw (le-leb _ _ w.if-angle-le-QUARTER_TURN.true) (c.quarter.ensures ∙ ap sine_quarter w.acute-is)
      | else-angle-le-QUARTER_TURN w ↦ rw (lt-leb _ _ w.if-angle-le-QUARTER_TURN.false) (c.quarter.ensures ∙ ap sine_quarter w.acute-is)
    ]
