-- `deck::swatches::are_in_order` meets its contract: the swatches before k are tested. Assumes nothing.
use mathlib.Core.Path.{refl, sym, ap, ap₂, ◌∙◌}
use mathlib.Core.Bool.{◌&&◌}
use native.Mathlib.Numerals.{add-one}
use lib.Dec.{eqb}
use lib.Signed.{le_z}
use mir.Syntax.{w32}
use mir.Facts.{to_z-of_z}
use borrow.Author.Rules.{sfits_of}
use Rattle.sample.specs.Sample.{Colour, colour_refusal}
use Rattle.places.proofs.PlacesLaws.{every-none, every-next}
use Rattle.deck.specs.Inner.{lightness_before, swatch_in_order}
use Rattle.deck.proofs.swatches.are_in_order.Goals as goal

pub loop-k-init : goal.loop-k-init
loop-k-init g c = (sym (every-none _), refl)

pub loop-k-preserved : goal.loop-k-preserved
unfolding swatch_in_order
loop-k-preserved g c =
    let d = g.S.Swatches.deck c.args.swatches.now in
    let colour = c.colour-colour.ensures in
    let lightness =
    to_z-of_z {w = w32} {z = c.colour-colour.result.l} (sfits_of c.struct_told-1.given.0.1) ∙ ap (λ (x : Colour). x.l) colour in
    let within = c.is_within.ensures ∙ ap (λ (x : Colour). eqb (colour_refusal x) 0) colour in
    let here = ap₂ ◌&&◌ (ap₂ le_z c.loop-k.invariant.1 lightness) within in (
      ap₂ ◌&&◌ c.loop-k.invariant.0 here ∙ sym (every-next (swatch_in_order d) c.loop-k.k),
      lightness ∙ ap (lightness_before d) (sym (add-one c.loop-k.k)),
    )
