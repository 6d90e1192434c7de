-- What an accepted reading and accepted weights are rounded to, which is all that the working sees of them. Assumes nothing.
use Rattle.sample.specs.Sample.{Sample}
use Rattle.fixed_point.specs.Rounding.{fixed_size, fixed_of}
use Rattle.fixed_point.specs.declared.Reading.{Reading}
use Rattle.fixed_point.specs.declared.Weights.{Weights}
use Rattle.sample.specs.declared.FixedWeights.{FixedWeights}

-- the sample that a reading is rounded to
unfoldable pub sample_of : Reading → Sample
sample_of r = record { l = fixed_size r.l; a = fixed_of r.a; b = fixed_of r.b }

-- the weights, rounded
unfoldable pub weights_of : Weights → FixedWeights
weights_of w = record { l = fixed_size w.l; c = fixed_size w.c; h = fixed_size w.h }
