-- `fixed_point::halves` meets its contract. Assumes nothing.
use lib.Ieee.{of_bits}
use denote.Floats.{passes}
use Rattle.fixed_point.proofs.Sizes.{zero-size, negative-size, positive-size}
use Rattle.fixed_point.proofs.halves.Goals as goal

pub returns-then-v : goal.returns-then-v
unfolding of_bits
returns-then-v c = zero-size c.args.x (rw c.f32_to_f64_with_nan-v.ensures at c.if-v.true)

pub returns-then-v-2 : goal.returns-then-v-2
unfolding of_bits
returns-then-v-2 c =
    rw c.f32_to_f64_with_nan-v.ensures (negative-size c.args.x (passes _ c.well_formed.0.1) c.requires (rw c.f32_to_f64_with_nan-v.ensures at c.if-v-2.true))

pub returns : goal.returns
unfolding of_bits
returns c =
    rw c.f32_to_f64_with_nan-v.ensures (positive-size c.args.x (passes _ c.well_formed.0.1) c.requires (rw c.f32_to_f64_with_nan-v.ensures at c.if-v.false) (rw c.f32_to_f64_with_nan-v.ensures at c.if-v-2.false))
