-- Refusals 1 to 5 of floats, by their numbers and in their order; 0 is no refusal. Assumes nothing.
use Rattle.std.specs.Prelude.{ℕ, cond, not, ◌||◌, Float}
use Rattle.std.specs.Float.Ieee.Scale.{finite}
use Rattle.fixed_point.specs.Limits.{lightness_in, opponent_in, weight_in, tolerance_in}
use Rattle.fixed_point.specs.declared.Reading.{Reading}
use Rattle.fixed_point.specs.declared.Weights.{Weights}

-- 1: L, a or b is not a number or infinite; 2: L is outside its limits; 3: a or b is
unfoldable pub reading_refusal : Reading → ℕ
reading_refusal r =
    cond (not (finite r.l) || not (finite r.a) || not (finite r.b)) 1
    (cond (not (lightness_in r.l)) 2
    (cond (not (opponent_in r.a) || not (opponent_in r.b)) 3 0))

-- 4: a weight is not a number or outside its limits
unfoldable pub weights_refusal : Weights → ℕ
weights_refusal w = cond (not (weight_in w.l) || not (weight_in w.c) || not (weight_in w.h)) 4 0

-- 5: the tolerance is not a number or outside its limits
unfoldable pub tolerance_refusal : Float → ℕ
tolerance_refusal t = cond (not (tolerance_in t)) 5 0
