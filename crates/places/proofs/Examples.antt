-- The definitions at numbers, by computation.
use mathlib.Core.Path.{◌≡◌, refl}
use mathlib.Core.Bool.{Bool, true, false, ◌&&◌}
use mathlib.Core.List.{List, [], ◌∷◌}
use Prim.Native.Nat.{ℕ}
use lib.IntN.{ℤ, pos, negsuc}
use lib.Signed.{le_z}
use Rattle.places.specs.Places.{keep, hits, matches_of, tally, every, at, rising}

-- five places
abbrev deck : List ℤ
deck = pos 40 ∷ pos 45 ∷ pos 50 ∷ pos 50 ∷ pos 60 ∷ []

abbrev near : ℕ → Bool
near k = le_z (pos 45) (at deck k) && le_z (at deck k) (pos 55)

-- equal values are each listed
listed : matches_of near 5 ≡ 1 ∷ 2 ∷ 3 ∷ []
unfolding matches_of hits keep
listed = refl

of-a-window : hits near 1 3 ≡ 1 ∷ 2 ∷ 3 ∷ []
unfolding hits keep
of-a-window = refl

counted : tally near 5 ≡ 3
unfolding tally
counted = refl

none : matches_of near 0 ≡ []
unfolding matches_of hits
none = refl

in_order : rising (at deck) 5 ≡ true
unfolding rising every
in_order = refl

-- each pair counts, not neighbours only
falls : rising (at (pos 40 ∷ negsuc 0 ∷ pos 50 ∷ [])) 3 ≡ false
unfolding rising every
falls = refl

-- no places, and one, are in order
empty : rising (at []) 0 ≡ true
unfolding rising every
empty = refl

single : rising (at (pos 40 ∷ [])) 1 ≡ true
unfolding rising every
single = refl
