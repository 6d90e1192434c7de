-- `hue::Turned::tenth` meets its contract: the half that is kept holds what the whole did. The measure is the width of the range.
-- Assumes nothing.
use Rattle.std.proofs.Common.{refl, sym, ◌∙◌}
use Rattle.hue.proofs.Halving.{met, Kept, upper, lower}
use Rattle.hue.proofs.Turned.+tenth.Goals as goal
use Rattle.hue.proofs.Turned.+tenth.Goals.{then-reached, else-reached}

pub returns-then-width-eq0 : goal.returns-then-width-eq0
returns-then-width-eq0 t c = met _ c.if-width-eq0.true c.requires.low_reached

pub returns : goal.returns
returns t c =
    let s = c.args in
    -- which half is kept, by whether the tenth between is reached
    let kept : Kept s.self.x s.self.y s.low s.width c.if-reached.next =
    elim c.if-reached.branch [
      | then-reached w ↦
          upper s.self.x s.self.y s.low s.width refl c.requires.width_bound
          (sym c.reached.ensures ∙ w.if-reached.true) w.next-is
      | else-reached w ↦
          lower s.self.x s.self.y s.low s.width refl c.requires.width_bound
          c.requires.low_reached (sym c.reached.ensures ∙ w.if-reached.false) w.next-is
    ] in
    c.tenth.ensures ∙ sym kept.same
