-- The sine and the cosine of some angles, by computation: whole quarter turns, 30 degrees, and an angle between entries in each quadrant.
-- Assumes nothing.
use mathlib.Core.Path.{◌≡◌, refl}
use mathlib.Core.List.{List, [], ◌∷◌, map}
use Prim.Native.Nat.{ℕ}
use lib.IntN.{pos, neg_ℤ}
use Rattle.sine.specs.Sine.{unit, pi, alternating, series, sine_entry, interpolated, sine_quarter, sine_half, sine_turn, sine_of, cosine_of}

-- in 10^-6 degree
angles : List ℕ
angles = 0 ∷ 30000000 ∷ 90000000 ∷ 180000000 ∷ 270000000 ∷ 360000000 ∷ 12345678 ∷ 123456789 ∷ 234567890 ∷ 345678901 ∷ []

sines :
    map sine_of angles ≡
    pos 0 ∷
    pos 500000000 ∷
    pos 1000000000 ∷
    pos 0 ∷
    neg_ℤ (pos 1000000000) ∷
    pos 0 ∷
    pos 213809249 ∷
    pos 834301841 ∷
    neg_ℤ (pos 814803024) ∷
    neg_ℤ (pos 247355833) ∷
    []
unfolding unit pi alternating series sine_entry interpolated sine_quarter sine_half sine_turn sine_of angles
sines = refl

cosines :
    map cosine_of angles ≡
    pos 1000000000 ∷
    pos 866025404 ∷
    pos 0 ∷
    neg_ℤ (pos 1000000000) ∷
    pos 0 ∷
    pos 1000000000 ∷
    pos 976875429 ∷
    neg_ℤ (pos 551307933) ∷
    neg_ℤ (pos 579737899) ∷
    pos 968924709 ∷
    []
unfolding unit pi alternating series sine_entry interpolated sine_quarter sine_half sine_turn sine_of cosine_of angles
cosines = refl
