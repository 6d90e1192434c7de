-- `hue::hue` meets its contract: in the quadrants 0 and 2 the point turned is (|a|, |b|), in 1 and 3 (|b|, |a|), and where
-- a or b is not 0 the chroma is not 0.
-- Assumes nothing.
use mathlib.Core.Path.{◌≡◌, refl, sym, ◌∙◌}
use mathlib.Core.Bool.{Bool, false, cond}
use Prim.Native.Nat.{ℕ, zero, suc, ◌+◌, ◌*◌, ◌%◌, ◌≤◌, ◌<◌}
use native.Mathlib.Nat.{le_trans, le_of_eq}
use native.Mathlib.Omega.{arith}
use borrow.Author.Tests.{ne_eqb, eqb-false}
use lib.Dec.{eqb}
use lib.IntN.{ℤ}
use Rattle.signed.specs.declared.Int.{Int}
use Rattle.signed.specs.Inner.{int}
use Rattle.signed.proofs.SignedLaws.{int-size}
use Rattle.sine.proofs.SineLaws.{cond-le}
use Rattle.hue.specs.Hue.{grey, quadrant_of, turned_x, turned_y, angle_of, hue_in, hue_of}
use Rattle.hue.proofs.HueLaws.{quadrant-grey, quadrant_of-none, hue-grey, hue-coloured}
use Rattle.hue.proofs.Numbers.{tag-number, same-number}
use Rattle.hue.specs.contracts.Quadrant.{the_type}
use Rattle.hue.specs.declared.Quadrant.{Quadrant}
use Rattle.hue.specs.declared.Quadrant.TheVariants.{Grey}
use Rattle.hue.specs.Inner.{number_of}
use denote.Enum.Bare.{sameb}
use denote.Enum.Declared.{tag_of}
use Rattle.hue.proofs.hue.Goals as goal

not-grey : (a b : ℤ) {q : ℕ} → q ≡ quadrant_of a b → (q ≡ 4 → ⊥) → grey a b ≡ false
not-grey a b e h = quadrant-grey a b ∙ ne_eqb (quadrant_of a b) 4 (λ f. h (e ∙ f))

-- t is true in the quadrants 0 and 2
hue-turned :
    (a b : Int) (chroma : ℕ) (t : Bool) {q r : ℕ} →
    q ≡ quadrant_of (int a) (int b) → (q ≡ 4 → ⊥) → eqb (q % 2) 0 ≡ t →
    r ≡ 90000000 * q + angle_of (cond t a.n b.n) (cond t b.n a.n) chroma →
    r ≡ hue_of (int a) (int b) chroma
unfolding hue_in turned_x turned_y
hue-turned a b chroma t e h f g =
    g ∙ sym (hue-coloured (int a) (int b) chroma (not-grey (int a) (int b) e h) ∙ rw (← e, f, int-size a, int-size b))

chroma-pos : (a b : Int) (chroma : ℕ) {q : ℕ} → q ≡ quadrant_of (int a) (int b) → (q ≡ 4 → ⊥) → a.n ≤ chroma → b.n ≤ chroma → 0 < chroma
chroma-pos a b zero e h k l =
    absurd (h (e ∙ quadrant_of-none (int a) (int b) (omega (arith, int-size a)) (omega (arith, int-size b))))
chroma-pos a b (suc n) e h k l = omega arith

coloured : (q : Quadrant) {b : Bool} → b ≡ sameb the_type q Grey → b ≡ false → number_of q ≡ 4 → ⊥
coloured q e f = eqb-false (number_of q) 4 (sym (same-number q Grey) ∙ sym e ∙ f)

pub returns-then-eq : goal.returns-then-eq
returns-then-eq c =
    sym (hue-grey _ _ _ (quadrant-grey _ _ ∙ rw (← c.of-q.ensures) (sym (same-number _ Grey) ∙ sym c.eq.ensures ∙ c.if-eq.true)))

pub invariant_of-turned : goal.invariant_of-turned
invariant_of-turned c =
    let even : Bool = eqb (tag_of the_type c.of-q.result % 2) 0 in
    let within = c.requires.ab_le_chroma in
    let positive : 0 < c.args.p.chroma =
    chroma-pos c.args.p.a c.args.p.b c.args.p.chroma c.of-q.ensures (coloured _ c.eq.ensures c.if-eq.false) within.0 within.1 in
    record {
      within = (
        le_trans (le_of_eq c.pick.ensures) (cond-le even within.0 within.1),
        le_trans (le_of_eq c.pick-2.ensures) (cond-le even within.1 within.0),
      );
      coloured = (positive, c.requires.chroma_bound);
    }

pub returns : goal.returns
returns c =
    hue-turned _ _ _ _ c.of-q.ensures (coloured _ c.eq.ensures c.if-eq.false) (rw tag-number refl)
    (c.angle.ensures ∙ (λ i. 90000000 * number_of c.of-q.result + angle_of (c.pick.ensures i) (c.pick-2.ensures i) c.args.p.chroma))
