-- `text::line_figures` meets its contract. Assumes nothing.
use mathlib.Core.Path.{sym, ap, ◌∙◌}
use lib.Dec.{lit<}
use Rattle.text.specs.Text.{answer_of, held_answer}
use Rattle.text.proofs.Answering.{refused-short}
use Rattle.text.proofs.line_figures.Goals as goal

pub returns-in_default : goal.returns-in_default
unfolding held_answer
returns-in_default c = refused-short 9 (lit< tt) ∙ ap held_answer (sym c.in_default.ensures)

pub returns-in-Some-parse : goal.returns-in-Some-parse
unfolding answer_of held_answer
returns-in-Some-parse c = c.figures.ensures ∙ c.in-Some-parse.ensures ∙ ap held_answer (sym c.in-Some.ensures)

pub returns-in-None : goal.returns-in-None
unfolding answer_of held_answer
returns-in-None c = refused-short 9 (lit< tt) ∙ c.in-None.ensures ∙ ap held_answer (sym c.in-Some.ensures)
