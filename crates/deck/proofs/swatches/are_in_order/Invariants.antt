-- Of `deck::swatches::are_in_order`: the swatches before k are tested. Assumes nothing.
use mathlib.Core.Path.{◌≡◌}
use Rattle.places.specs.Places.{every}
use Rattle.deck.specs.Inner.{lightness_before, swatch_in_order}
use Rattle.deck.proofs.swatches.are_in_order.Given as goal

abbrev pub invariant-loop-k : goal.invariant-loop-k
invariant-loop-k g l =
    (l.orderly ≡ every (swatch_in_order (g.S.Swatches.deck l.swatches)) l.k)
    × (l.before ≡ lightness_before (g.S.Swatches.deck l.swatches) l.k)
