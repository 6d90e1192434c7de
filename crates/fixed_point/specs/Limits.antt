-- The limits, tested on a float's exact value before it is rounded. A limit itself is accepted. `le` is false where a side is
-- not a number, and an infinity is above or below every limit. Assumes nothing.
use Rattle.std.specs.Prelude.{Bool, true, false, ◌&&◌, pos, negsuc, Float}
use Rattle.std.specs.Float.{fin}
use Rattle.std.specs.Float.Ieee.{le}

abbrev pub within : Float → Float → Float → Bool
within low high x = le low x && le x high

-- L: 0 to 100, which is 25 * 2 ^ 2
abbrev pub lightness_in : Float → Bool
lightness_in x = within (fin false 0 (pos 0)) (fin false 25 (pos 2)) x

-- a and b: -128 to 128, which is 2 ^ 7
abbrev pub opponent_in : Float → Bool
opponent_in x = within (fin true 1 (pos 7)) (fin false 1 (pos 7)) x

-- a weight: 0.5 to 10, which is 5 * 2
abbrev pub weight_in : Float → Bool
weight_in x = within (fin false 1 (negsuc 0)) (fin false 5 (pos 1)) x

-- a tolerance: 0 to 100
abbrev pub tolerance_in : Float → Bool
tolerance_in x = within (fin false 0 (pos 0)) (fin false 25 (pos 2)) x
