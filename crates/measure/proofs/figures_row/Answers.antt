-- `measure::figures_row` meets its contract: each signed number is read back as itself, and each other one fits 63 bits.
use mathlib.Core.Path.{◌≡◌, refl, ap, ◌∙◌}
-- Assumes nothing.
use mathlib.Core.Bool.{Bool, true, false, cond}
use mathlib.Core.List.{[], ◌∷◌}
use Prim.Native.Nat.{◌^◌, ◌<◌}
use native.Mathlib.Omega.{arith}
use lib.Dec.{lit<}
use mir.Syntax.{w64}
use mir.ValLaws.{to_z_pos}
use borrow.Author.Rules.{sfits_of}
use Rattle.signed.specs.Inner.{int}
use Rattle.signed.proofs.Border.{read_back}
use Rattle.difference.specs.Inner.{intermediate_figures, point_of, signed_parts}
use Rattle.measure.specs.Answers.{figures_row}
use lib.IntN.{pos}
use mir.Val.{bool_byte}
use Rattle.measure.proofs.figures_row.Goals as goal

one-or-none : (b : Bool) → cond b 1 0 < 2 ^ 63
one-or-none true = lit< tt
one-or-none false = lit< tt

byte-is : (b : Bool) → bool_byte b ≡ cond b 1 0
byte-is true = refl
byte-is false = refl

pub overflow_cast-result : goal.overflow_cast-result
unfolding intermediate_figures point_of
overflow_cast-result c = sfits_of c.requires.figures_in.c1

pub overflow_cast-result-3 : goal.overflow_cast-result-3
unfolding intermediate_figures point_of
overflow_cast-result-3 c = sfits_of c.requires.figures_in.h1

pub overflow_cast-result-4 : goal.overflow_cast-result-4
unfolding intermediate_figures point_of
overflow_cast-result-4 c = sfits_of c.requires.figures_in.c2

pub overflow_cast-result-6 : goal.overflow_cast-result-6
unfolding intermediate_figures point_of
overflow_cast-result-6 c = sfits_of c.requires.figures_in.h2

pub overflow_cast-result-7 : goal.overflow_cast-result-7
unfolding intermediate_figures point_of
overflow_cast-result-7 c = sfits_of c.requires.figures_in.z

pub overflow_cast-result-8 : goal.overflow_cast-result-8
unfolding intermediate_figures point_of
overflow_cast-result-8 c = sfits_of c.requires.figures_in.mean

pub overflow_cast-result-9 : goal.overflow_cast-result-9
unfolding intermediate_figures point_of
overflow_cast-result-9 c = sfits_of c.requires.figures_in.t

pub overflow_cast-result-10 : goal.overflow_cast-result-10
unfolding intermediate_figures point_of
overflow_cast-result-10 c = sfits_of c.requires.figures_in.sl

pub overflow_cast-result-11 : goal.overflow_cast-result-11
unfolding intermediate_figures point_of
overflow_cast-result-11 c = sfits_of c.requires.figures_in.sc

pub overflow_cast-result-12 : goal.overflow_cast-result-12
unfolding intermediate_figures point_of
overflow_cast-result-12 c = sfits_of c.requires.figures_in.sh

pub overflow_cast-result-13 : goal.overflow_cast-result-13
unfolding intermediate_figures point_of
overflow_cast-result-13 c = sfits_of c.requires.figures_in.r

pub returns : goal.returns
unfolding figures_row intermediate_figures point_of signed_parts int
returns c =
    let r = c.args.r in
    let h = c.requires.figures in
    let n = c.requires.figures_in in
    let a1 = read_back w64 r.p1.a c.to_i64-a1.ensures (omega (arith, h.p1.a_le)) in
    let b1 = read_back w64 r.p1.b c.to_i64-b1.ensures (omega (arith, h.p1.b_le)) in
    let a2 = read_back w64 r.p2.a c.to_i64-a2.ensures (omega (arith, h.p2.a_le)) in
    let b2 = read_back w64 r.p2.b c.to_i64-b2.ensures (omega (arith, h.p2.b_le)) in
    let d = read_back w64 r.hues.difference c.to_i64-hue_difference.ensures (omega (arith, h.hues)) in
    let l = read_back w64 r.parts.l c.to_i64-l.ensures (omega (arith, h.parts.l)) in
    let m = read_back w64 r.parts.c c.to_i64-c.ensures (omega (arith, h.parts.c)) in
    let k = read_back w64 r.parts.h c.to_i64-h.ensures (omega (arith, h.parts.h)) in
    let far = read_back w64 (record { neg = false; n = cond r.hues.far 1 0 }) (c.from.ensures ∙ ap pos (byte-is r.hues.far)) (one-or-none r.hues.far) in
    λ i. to_z_pos w64 r.c1 n.c1 i ∷ a1 i ∷ b1 i ∷ to_z_pos w64 r.p1.chroma n.cp1 i ∷ to_z_pos w64 r.hues.h1 n.h1 i
    ∷ to_z_pos w64 r.c2 n.c2 i ∷ a2 i ∷ b2 i ∷ to_z_pos w64 r.p2.chroma n.cp2 i ∷ to_z_pos w64 r.hues.h2 n.h2 i
    ∷ to_z_pos w64 r.z n.z i ∷ far i ∷ d i ∷ to_z_pos w64 r.hues.mean n.mean i
    ∷ to_z_pos w64 r.terms.t n.t i ∷ to_z_pos w64 r.terms.sl n.sl i ∷ to_z_pos w64 r.terms.sc n.sc i
    ∷ to_z_pos w64 r.terms.sh n.sh i ∷ to_z_pos w64 r.terms.r n.r i
    ∷ l i ∷ m i ∷ k i ∷ to_z_pos w64 r.difference (omega (arith, h.difference)) i ∷ []
