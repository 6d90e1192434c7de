-- `hue_difference::side_of` meets its contract: quadrant 4 is grey, and the signs are X's.
-- Assumes nothing.
use mathlib.Core.Path.{◌≡◌, refl, sym, ap, ap₂, ◌∙◌}
use mathlib.Core.Bool.{Bool, true, false, cond, not, ◌&&◌, ◌||◌}
use Prim.Native.Nat.{ℕ}
use lib.Dec.{eqb}
use lib.IntN.{ℤ, pos, nat_abs}
use lib.Signed.{lt_z}
use denote.Enum.Bare.{sameb}
use Rattle.hue.specs.contracts.Quadrant.{the_type}
use Rattle.hue.specs.declared.Quadrant.{Quadrant}
use Rattle.hue.specs.declared.Quadrant.TheVariants.{Grey}
use Rattle.hue.specs.Hue.{grey, quadrant_of}
use Rattle.hue.specs.Inner.{number_of}
use Rattle.hue.proofs.HueLaws.{quadrant-grey}
use Rattle.hue.proofs.Numbers.{same-number}
use Rattle.hue_difference.specs.HueDifference.{cross_of, later_in, second_later, first_later, far_of, opposite_of, no_hue_of, hue_negative}
use Rattle.hue_difference.specs.Inner.{sign_of}
use Rattle.hue_difference.proofs.side_of.Goals as goal

grey-by : (a b : ℤ) (q : Quadrant) {g : Bool} → number_of q ≡ quadrant_of a b → g ≡ sameb the_type q Grey → g ≡ grey a b
grey-by a b q e f = f ∙ same-number q Grey ∙ ap (λ (n : ℕ). eqb n 4) e ∙ sym (quadrant-grey a b)

not-or : (s t : Bool) → not (s || t) ≡ (not s && not t)
not-or true t = refl
not-or false t = refl

module _ (a1 b1 a2 b2 : ℤ) {x : ℤ} (ex : x ≡ cross_of a1 b1 a2 b2) where
  opposite-by :
      {g z d : Bool} → g ≡ (grey a1 b1 || grey a2 b2) → z ≡ eqb (nat_abs x) 0 → d ≡ not (eqb (quadrant_of a1 b1) (quadrant_of a2 b2)) →
      (not g && z && d) ≡ opposite_of a1 b1 a2 b2
  unfolding opposite_of
  opposite-by eg ez ed = rw (eg, ez, ed, ex, not-or)

  none-by :
      {g z o : Bool} → g ≡ (grey a1 b1 || grey a2 b2) → z ≡ eqb (nat_abs x) 0 → o ≡ opposite_of a1 b1 a2 b2 →
      (g || (z && not o)) ≡ no_hue_of a1 b1 a2 b2
  unfolding no_hue_of
  none-by eg ez eo = rw (eg, ez, eo, ex)

  module _ (p q : ℕ) {u n second : Bool} (e1 : p ≡ quadrant_of a1 b1) (e2 : q ≡ quadrant_of a2 b2)
      (ep : u ≡ lt_z (pos 0) x) (en : n ≡ lt_z x (pos 0)) (es : second ≡ later_in p q u) where
    far-by : {first : Bool} → first ≡ later_in q p n → ((second && n) || (first && u)) ≡ far_of a1 b1 a2 b2
    unfolding far_of second_later first_later
    far-by ef = rw (es, ef, ep, en, ex, e1, e2)

    minus-by : {o m : Bool} → o ≡ opposite_of a1 b1 a2 b2 → m ≡ cond o (not second) n → m ≡ hue_negative a1 b1 a2 b2
    unfolding hue_negative second_later
    minus-by eo em = em ∙ rw (eo, es, ep, en, ex, e1, e2)

pub returns : goal.returns
returns c =
    let s = c.args.s in
    let t = c.args.t in
    let x = c.cross-x.ensures.is in
    let zero = c.is_zero-zero.ensures in
    let first = grey-by _ _ _ s.is c.eq.ensures in
    let second = grey-by _ _ _ t.is c.eq-2.ensures in
    let both = ap₂ ◌||◌ first second in
    let apart = c.ne.ensures ∙ ap not (same-number _ _ ∙ ap₂ eqb s.is t.is) in
    let opposite = opposite-by _ _ _ _ x both zero apart in
    let none = none-by _ _ _ _ x both zero opposite in
    let signs = far-by _ _ _ _ x _ _ s.is t.is c.is_positive-positive.ensures c.is_negative-negative.ensures c.later-second.ensures in
    let minus = minus-by _ _ _ _ x _ _ s.is t.is c.is_positive-positive.ensures c.is_negative-negative.ensures c.later-second.ensures opposite c.pick-minus.ensures in
    record { grey_is = both; far_is = signs c.later-first.ensures; sign_is = c.sign.ensures ∙ (λ i. sign_of (none i) (minus i)) }
