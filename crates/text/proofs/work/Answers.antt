-- `text::work` meets its contract. Assumes nothing.
use mathlib.Core.Path.{refl}
use Rattle.difference.specs.Inner.{signed_parts, intermediate_figures}
use Rattle.text.specs.Text.{plain_weights}
use Rattle.text.proofs.Answering.{six-figures}
use Rattle.text.proofs.work.Goals as goal

pub returns : goal.returns
unfolding signed_parts intermediate_figures plain_weights
returns c =
    six-figures _ c.of-p.ensures c.of-q.ensures c.from.ensures.is
    c.cie76.ensures.is c.from-2.ensures.is c.cie94.ensures.is
    c.from-3.ensures.is refl c.figures-f.ensures.is
