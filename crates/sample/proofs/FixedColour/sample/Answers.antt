-- A colour that is not refused is a sample: its lightness is not below 0, and each number is within the sample's bounds.
-- Assumes nothing.
use mathlib.Core.Path.{◌≡◌}
use native.Mathlib.Omega.{arith}
use mir.Syntax.{w32}
use mir.Val.{of_z, to_z}
use Rattle.std.proofs.lemmas.Int.{to_z-of_z}
use Rattle.sample.specs.Sample.{colour_sample}
use Rattle.sample.specs.Inner.{lab_of, colour_of}
use Rattle.sample.proofs.SampleLaws.{Made, lightness-made, made}
use Rattle.sample.proofs.FixedColour.sample.Goals as goal

pub overflow_cast-result : goal.overflow_cast-result
overflow_cast-result c =
    let read : to_z w32 (of_z w32 c.args.self.l) ≡ c.args.self.l = grind (arith, to_z-of_z) in
    let l = lightness-made (colour_of c.args.self) c.requires read in
    (l.0, record { fits = omega (arith, l.1) })

sample_made : (c : goal.After-from-2) → Made (colour_of c.args.self) (to_z w32 (of_z w32 c.args.self.l)) c.from.result c.from-2.result
sample_made c =
    made (colour_of c.args.self) c.requires (grind (arith, to_z-of_z)) (grind (arith, to_z-of_z)) (grind (arith, to_z-of_z))
    c.from.ensures c.from-2.ensures

pub invariant_of-result : goal.invariant_of-result
invariant_of-result c = let m = sample_made c in record { l_within = m.l_within; a_within = m.a_within; b_within = m.b_within }

pub returns : goal.returns
unfolding lab_of colour_sample
returns c = let m = sample_made c.before in λ i. record { l = m.l i; a = m.a i; b = m.b i }
