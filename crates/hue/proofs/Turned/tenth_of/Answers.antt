-- `hue::Turned::tenth_of` meets its contract: where the tenth after the estimate is not reached, none past it is.
-- Assumes nothing.
use Rattle.std.proofs.Common.{◌≡◌, refl, sym, ◌∙◌, Bool, true, false, not, ◌&&◌, true≢false, ◌+◌, ◌-◌, arith}
use Rattle.hue.specs.Hue.{tenth_of}
use Rattle.hue.proofs.Halving.{reaches-first, cut}
use Rattle.hue.proofs.Turned.tenth_of.Goals as goal

first_alone : (a b : Bool) → a && not b ≡ true → (a ≡ true) × (b ≡ false)
first_alone true false h = (refl, refl)
first_alone true true h = absurd (true≢false (sym h))
first_alone false b h = absurd (true≢false (sym h))

pub returns-then-before-after : goal.returns-then-before-after
unfolding tenth_of
returns-then-before-after c =
    let k = c.estimate-k.result in
    let none = sym c.reached-after.ensures ∙ (first_alone _ _ c.if-before-after.true).1 in
    c.tenth.ensures ∙ sym (cut c.args.self.x c.args.self.y (k + 1) (k - 1 + 1) 899 (omega arith) (omega arith) (omega arith) none)

pub tenth-requires-2-clause-low_reached : goal.tenth-requires-2-clause-low_reached
tenth-requires-2-clause-low_reached c = reaches-first _ _

pub returns : goal.returns
unfolding tenth_of
returns c = c.tenth-2.ensures
