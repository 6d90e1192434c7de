-- `sine::sine` meets its contract: each half turn is a law.
-- Assumes nothing.
use mathlib.Core.Path.{ap, ◌∙◌}
use Rattle.sine.specs.Sine.{sine_half}
use Rattle.sine.proofs.Results.{sine-first, sine-second}
use Rattle.sine.proofs.sine.Goals as goal
use Rattle.sine.proofs.sine.Goals.{then-turn-lt-HALF_TURN, else-turn-lt-HALF_TURN}

pub returns : goal.returns
returns c =
    elim c.if-turn-lt-HALF_TURN.branch [
      | then-turn-lt-HALF_TURN w ↦ sine-first _ w.if-turn-lt-HALF_TURN.true (c.half-n.ensures ∙ ap sine_half w.past-is)
      | else-turn-lt-HALF_TURN w ↦ sine-second _ w.if-turn-lt-HALF_TURN.false (c.half-n.ensures ∙ ap sine_half w.past-is)
    ]
