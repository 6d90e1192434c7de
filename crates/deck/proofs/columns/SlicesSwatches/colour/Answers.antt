-- The colour at a place of three columns. Assumes nothing.
use native.Mathlib.Omega.{arith}
use mir.Syntax.{w32}
use mir.Val.{SFits}
use mir.Facts.{to_z-of_z}
use Rattle.std.proofs.Common.{rules}
use Rattle.places.specs.Places.{at}
use Rattle.deck.specs.Deck.{columns_at}
use Rattle.deck.proofs.DeckLaws.{sizes-are}
use Rattle.deck.proofs.columns.SlicesSwatches.colour.Goals as goal

pub bounds-self-k-2 : goal.bounds-self-k-2
bounds-self-k-2 c = omega (arith, sizes-are _ _ _ c.requires.sized, c.requires.in_deck)

pub bounds-self-k-3 : goal.bounds-self-k-3
bounds-self-k-3 c = omega (arith, sizes-are _ _ _ c.requires.sized, c.requires.in_deck)

pub returns : goal.returns
unfolding columns_at
returns c =
    let s = c.args.self.now in
    let l_fits : SFits w32 (at s.l.now c.args.k) = search rules in
    let a_fits : SFits w32 (at s.a.now c.args.k) = search rules in
    let b_fits : SFits w32 (at s.b.now c.args.k) = search rules in
    λ i. record { l = to_z-of_z l_fits i; a = to_z-of_z a_fits i; b = to_z-of_z b_fits i }
