-- `lahsufiq::lq_figures` meets its contract. Assumes nothing.
use Rattle.lahsufiq.proofs.Handing.{hands_figures}
use Rattle.lahsufiq.proofs.lq_figures.Goals as goal

pub returns : goal.returns
returns c =
    let h = hands_figures _ _ _ (rw (← c.reading-s.ensures, ← c.reading-t.ensures, ← c.weights-w.ensures) c.figures-answer.ensures) in
    rw (c.number.ensures, c.unwrap_or.ensures) (record { number = h.0; figures = h.1 })
