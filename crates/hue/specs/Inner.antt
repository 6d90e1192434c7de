-- The number of a quadrant. Assumes nothing.
use Rattle.std.specs.Prelude.{ℕ}
use Rattle.hue.specs.Hue.{grey_quadrant}
use Rattle.hue.specs.declared.Quadrant.{Quadrant}
use Rattle.hue.specs.declared.Quadrant.TheVariants.{First, Second, Third, Fourth, Grey}

abbrev pub number_of : Quadrant → ℕ
number_of First = 0
number_of Second = 1
number_of Third = 2
number_of Fourth = 3
number_of Grey = grey_quadrant
