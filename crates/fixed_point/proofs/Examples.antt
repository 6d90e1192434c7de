-- Floats by their bit patterns, and what becomes of each: by computation. Assumes nothing.
use Rattle.std.proofs.Common.{◌≡◌, ℕ, pos, negsuc, refl}
use lib.Ieee.{Float, binary32, of_bits, le}
use Rattle.fixed_point.specs.Rounding.{half_of, nearest_of, fixed_size, fixed_of}
use Rattle.fixed_point.specs.Refusals.{reading_refusal, weights_refusal, tolerance_refusal}

abbrev float : ℕ → Float
float bits = of_bits binary32 bits

abbrev reading : ℕ → ℕ → ℕ → ℕ
reading l a b = reading_refusal (record { l = float l; a = float a; b = float b })

abbrev weights : ℕ → ℕ → ℕ → ℕ
weights l c h = weights_refusal (record { l = float l; c = float c; h = float h })

-- 0.03125 and -0.03125, 312.5 in ten-thousandths: the even neighbour is the one nearer to zero
half : (fixed_of (float 0x3d00_0000) ≡ pos 312) × (fixed_of (float 0xbd00_0000) ≡ negsuc 311)
unfolding of_bits fixed_of fixed_size nearest_of half_of
half = (refl, refl)

-- 0.09375 and -0.09375, 937.5 in ten-thousandths: it is the other one
odd-half : (fixed_of (float 0x3dc0_0000) ≡ pos 938) × (fixed_of (float 0xbdc0_0000) ≡ negsuc 937)
unfolding of_bits fixed_of fixed_size nearest_of half_of
odd-half = (refl, refl)

-- the floats that 0.00015, 0.00025 and 0.00035 are read as are no halves: 1.50000007, 2.50000012 and 3.49999988
decimal-halves : (fixed_size (float 0x391d_4952) ≡ 2) × (fixed_size (float 0x3983_126f) ≡ 3) × (fixed_size (float 0x39b7_8034) ≡ 3)
unfolding of_bits fixed_size nearest_of half_of
decimal-halves = (refl, refl, refl)

-- the floats on either side of 0.03125 and of 0.09375
beside-halves : (fixed_size (float 0x3cff_ffff) ≡ 312) × (fixed_size (float 0x3d00_0001) ≡ 313) × (fixed_size (float 0x3dbf_ffff) ≡ 937) ×
    (fixed_size (float 0x3dc0_0001) ≡ 938)
unfolding of_bits fixed_size nearest_of half_of
beside-halves = (refl, refl, refl, refl)

-- a weight and a tolerance: 0.53125 and 99.96875, 5312.5 and 999687.5 in ten-thousandths
other-halves : (fixed_size (float 0x3f08_0000) ≡ 5312) × (fixed_size (float 0x42c7_f000) ≡ 999688)
unfolding of_bits fixed_size nearest_of half_of
other-halves = (refl, refl)

-- -0 is 0, and accepted as L, a and b
minus-zero : (fixed_of (float 0x8000_0000) ≡ pos 0) × (reading 0x8000_0000 0x8000_0000 0x8000_0000 ≡ 0)
unfolding of_bits fixed_of fixed_size nearest_of half_of reading_refusal le
minus-zero = (refl, refl)

-- 100 is accepted, and the float after it is not, though it rounds to 100 too
hundred : (fixed_size (float 0x42c8_0000) ≡ 1000000) × (reading 0x42c8_0000 0 0 ≡ 0)
unfolding of_bits fixed_size nearest_of half_of reading_refusal le
hundred = (refl, refl)

after-hundred : (fixed_size (float 0x42c8_0001) ≡ 1000000) × (reading 0x42c8_0001 0 0 ≡ 2) × (tolerance_refusal (float 0x42c8_0001) ≡ 5)
unfolding of_bits fixed_size nearest_of half_of reading_refusal tolerance_refusal le
after-hundred = (refl, refl, refl)

-- 128, -128 and the floats after them
opponent-limits : (fixed_of (float 0x4300_0000) ≡ pos 1280000) × (reading 0 0x4300_0000 0xc300_0000 ≡ 0) ×
    (reading 0 0x4300_0001 0 ≡ 3) × (reading 0 0 0xc300_0001 ≡ 3)
unfolding of_bits fixed_of fixed_size nearest_of half_of reading_refusal le
opponent-limits = (refl, refl, refl, refl)

-- the smallest float above 0: accepted as L, and below 0 refused
subnormal : (fixed_of (float 1) ≡ pos 0) × (reading 1 1 1 ≡ 0) × (reading 0x8000_0001 0 0 ≡ 2) × (tolerance_refusal (float 0x8000_0001) ≡ 5)
unfolding of_bits fixed_of fixed_size nearest_of half_of reading_refusal tolerance_refusal le
subnormal = (refl, refl, refl, refl)

-- the weights' limits 0.5 and 10, the float before the one and the float after the other
weight-limits : (weights 0x3f00_0000 0x4120_0000 0x3f80_0000 ≡ 0) × (weights 0x3eff_ffff 0x3f80_0000 0x3f80_0000 ≡ 4) ×
    (weights 0x3f80_0000 0x3f80_0000 0x4120_0001 ≡ 4)
unfolding of_bits weights_refusal le
weight-limits = (refl, refl, refl)

-- the tolerances 0 and 100
tolerance-limits : (tolerance_refusal (float 0) ≡ 0) × (tolerance_refusal (float 0x42c8_0000) ≡ 0)
unfolding of_bits tolerance_refusal le
tolerance-limits = (refl, refl)

-- a NaN and both infinities: 1 in a reading, also where L is outside its limits; 4 in a weight; 5 as a tolerance
not-numbers : (reading 0x7fc0_0000 0 0 ≡ 1) × (reading 0x7f80_0000 0 0 ≡ 1) × (reading 0xff80_0000 0 0 ≡ 1) × (reading 0x42ca_0000 0 0x7fc0_0000 ≡ 1)
unfolding of_bits reading_refusal le
not-numbers = (refl, refl, refl, refl)

not-weights : (weights 0x7fc0_0000 0x3f80_0000 0x3f80_0000 ≡ 4) × (weights 0x3f80_0000 0x7f80_0000 0x3f80_0000 ≡ 4) ×
    (weights 0x3f80_0000 0x3f80_0000 0xff80_0000 ≡ 4)
unfolding of_bits weights_refusal le
not-weights = (refl, refl, refl)

not-tolerances : (tolerance_refusal (float 0x7fc0_0000) ≡ 5) × (tolerance_refusal (float 0x7f80_0000) ≡ 5) × (tolerance_refusal (float 0xff80_0000) ≡ 5)
unfolding of_bits tolerance_refusal le
not-tolerances = (refl, refl, refl)

-- L 101 with a 129: the lightness is tested first
in_order : reading 0x42ca_0000 0x4301_0000 0 ≡ 2
unfolding of_bits reading_refusal le
in_order = refl
