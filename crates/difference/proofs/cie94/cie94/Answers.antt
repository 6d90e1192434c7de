-- `difference::cie94::cie94` meets its contract. Assumes nothing.
use mathlib.Core.Path.{ap, ◌∙◌}
use Rattle.difference.specs.Parts.{Parts, combined}
use Rattle.difference.specs.Cie94.{cie94_of}
use Rattle.difference.proofs.cie94.cie94.Goals as goal

pub returns : goal.returns
unfolding cie94_of
returns c = record {
  is = c.root_of_parts.ensures.is ∙ ap (λ (p : Parts). combined p 0)
      c.parts94.ensures.is;
  small = c.root_of_parts.ensures.small;
}
