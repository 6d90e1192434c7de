-- `lahsufiq::lq_verdict` meets its contract. Assumes nothing.
use mathlib.Core.Path.{◌∙◌}
use Rattle.lahsufiq.proofs.Handing.{hands_verdict}
use Rattle.lahsufiq.proofs.lq_verdict.Goals as goal

pub returns : goal.returns
returns c =
    let h = hands_verdict _ _ _ _ c.verdict-answer.ensures c.unwrap_or-judgement.ensures in
    rw (← c.reading-s.ensures, ← c.reading-t.ensures, ← c.weights-w.ensures, c.number.ensures)
    (record { difference = h.0; within = c.from.ensures ∙ h.1 })
