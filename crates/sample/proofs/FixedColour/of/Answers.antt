-- A colour in 32 bits is refused as the numbers are that it is made of. Assumes nothing.
use Rattle.sample.proofs.Limits.{narrowed-read, narrowed-refusal}
use Rattle.sample.proofs.SampleLaws.{narrowed-colour}
use Rattle.sample.proofs.FixedColour.of.Goals as goal

pub returns-clause-refusal : goal.returns-clause-refusal
returns-clause-refusal c =
    narrowed-refusal (narrowed-read c.narrowed.type_inv c.narrowed.ensures)
    (narrowed-read c.narrowed-2.type_inv c.narrowed-2.ensures) (narrowed-read c.narrowed-3.type_inv c.narrowed-3.ensures)

pub returns-clause-same : goal.returns-clause-same
returns-clause-same c =
    narrowed-colour (narrowed-read c.narrowed.type_inv c.narrowed.ensures)
    (narrowed-read c.narrowed-2.type_inv c.narrowed-2.ensures) (narrowed-read c.narrowed-3.type_inv c.narrowed-3.ensures)
