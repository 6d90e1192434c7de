-- `text::header` meets its contract. Assumes nothing.
use mathlib.Core.Path.{refl}
use Rattle.text.specs.Figures.{header_text}
use Rattle.text.specs.Stream.{held_text, text_so_far}
use Rattle.text.proofs.header.Goals as goal

pub returns : goal.returns
unfolding header_text held_text text_so_far
returns c = refl
