-- A sample that is beyond the radius of a reading in a and b does not match. Assumes nothing.
use mathlib.Core.Path.{◌≡◌, sym, ◌∙◌, subst}
use mathlib.Core.Bool.{true, false}
use borrow.Author.Tests.{lt-leb}
use Rattle.sample.specs.Inner.{lab_of, SampleIn, WeightsIn}
use Rattle.sample.specs.declared.Lab.{Lab}
use Rattle.sample.proofs.SampleLaws.{lab-in}
use Rattle.difference.specs.Verdict.{within_tolerance}
use Rattle.near.specs.Inner.{beyond_radius}
use Rattle.near.specs.InnerNeighbourhood.{IsNeighbourhood}
use Rattle.near.specs.declared.Neighbourhood.{Neighbourhood}
use Rattle.near.proofs.NearBound.{beyond-radius}
use Rattle.deck.specs.Deck.{FixedQuery}
use Rattle.deck.specs.InnerQuery.{sample_matches}

pub beyond-fails : (q : FixedQuery) (n : Neighbourhood) (swatch : Lab) → WeightsIn q.weights
    → IsNeighbourhood q.weights q.tolerance q.reading n
    → beyond_radius n.kl n.k n.tolerance (lab_of swatch) (lab_of n.reading) ≡ true → sample_matches q (lab_of swatch) ≡ false
unfolding sample_matches within_tolerance
beyond-fails q n swatch w h e =
    lt-leb _ _
    (beyond-radius q.weights (lab_of swatch) q.reading q.tolerance (lab-in swatch) (subst SampleIn h.reading (lab-in n.reading)) w
    (sym (λ i. beyond_radius (h.kl i) (h.k i) (h.tolerance i) (lab_of swatch) (h.reading i)) ∙ e))
