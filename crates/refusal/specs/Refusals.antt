-- The refusals' numbers, and their order: the first that applies is given. 0 is no refusal. Assumes nothing.
use Rattle.std.specs.Prelude.{ℕ, zero, suc, List, [], ◌∷◌, Result, Ok, Err}
use Rattle.refusal.specs.declared.Refusal.{Refusal}
use Rattle.refusal.specs.declared.Refusal.TheVariants.{NotFinite, Lightness, Opponent, Weight, Tolerance, DeckSize, Swatch}
use Rattle.refusal.specs.declared.Refusal.TheVariants.{Line, Mark, Version, Length, Room, Form, Row, Sets}

abbrev pub number_of : Refusal → ℕ
number_of NotFinite = 1
number_of Lightness = 2
number_of Opponent = 3
number_of Weight = 4
number_of Tolerance = 5
number_of DeckSize = 6
number_of Swatch = 7
number_of Line = 9
number_of Mark = 10
number_of Version = 11
number_of Length = 12
number_of Room = 13
number_of Form = 14
number_of Row = 15
number_of Sets = 16

-- of two refusals, the one tested first where it applies
abbrev pub first_of : ℕ → ℕ → ℕ
first_of zero n = n
first_of (suc m) n = suc m

-- the first that applies, of the refusals in the order in which they are tested
unfoldable pub first_refusal : List ℕ → ℕ
first_refusal [] = 0
first_refusal (n ∷ ns) = first_of n (first_refusal ns)

-- the number of the refusal that is given, 0 for a result
abbrev pub refused_with : {A : Type 0} → Result A Refusal → ℕ
refused_with (Ok x) = 0
refused_with (Err e) = number_of e

-- what a call answers: the value, or the number of the refusal that applies
unfoldable pub given : {A : Type 0} → ℕ → A → Result A ℕ
given zero x = Ok x
given (suc k) x = Err (suc k)

-- an answer with its refusal as a number
abbrev pub numbered : {A : Type 0} → Result A Refusal → Result A ℕ
numbered (Ok x) = Ok x
numbered (Err e) = Err (number_of e)
