-- A quadrant's number: as the code casts and compares it, and as it is chosen. Assumes nothing.
use mathlib.Core.Path.{◌≡◌, refl}
use mathlib.Core.Bool.{Bool, true, false, cond}
use denote.Enum.Bare.{sameb}
use denote.Enum.Declared.{tag_of}
use lib.Dec.{eqb}
use Rattle.hue.specs.contracts.Quadrant.{the_type}
use Rattle.hue.specs.declared.Quadrant.{Quadrant}
use Rattle.hue.specs.declared.Quadrant.TheVariants.{First, Second, Third, Fourth, Grey}
use Rattle.hue.specs.Inner.{number_of}
use Rattle.hue.proofs.Quadrants.{chosen}

pub tag-number : (q : Quadrant) → tag_of the_type q ≡ number_of q
tag-number First = refl
tag-number Second = refl
tag-number Third = refl
tag-number Fourth = refl
tag-number Grey = refl

-- as the code tests whether two are the same
pub same-number : (q r : Quadrant) → sameb the_type q r ≡ eqb (number_of q) (number_of r)
same-number q r = rw (← tag-number q, ← tag-number r) refl

pub number-chosen :
    (pa na pb nb : Bool) →
    number_of (cond pa (cond nb Fourth First) (cond pb Second (cond na Third (cond nb Fourth Grey)))) ≡ chosen pa na pb nb
number-chosen true na pb true = refl
number-chosen true na pb false = refl
number-chosen false na true nb = refl
number-chosen false true false nb = refl
number-chosen false false false true = refl
number-chosen false false false false = refl
