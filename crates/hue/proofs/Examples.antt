-- The hues of some points, by computation: the half axes at two sizes, grey, a point in each quadrant, and one with a chroma of 1.
-- Assumes nothing.
use mathlib.Core.Path.{◌≡◌, refl}
use mathlib.Core.List.{List, [], ◌∷◌, map}
use Prim.Native.Nat.{ℕ}
use lib.IntN.{ℤ, pos, neg_ℤ}
use Rattle.sine.specs.Sine.{unit, pi, alternating, series, sine_entry}
use Rattle.hue.specs.Hue.{grey, quadrant_of, turned_x, turned_y, largest, reaches, tenth_of, rest_of, angle_of, hue_in, hue_of}

hue_at : ℤ × ℤ × ℕ → ℕ
hue_at p = hue_of p.0 p.1 p.2

-- a, b and the chroma
points : List (ℤ × ℤ × ℕ)
points =
    (pos 1, pos 0, 1) ∷
    (pos 0, pos 1, 1) ∷
    (neg_ℤ (pos 1), pos 0, 1) ∷
    (pos 0, neg_ℤ (pos 1), 1) ∷
    (pos 10000000, pos 0, 10000000) ∷
    (pos 0, pos 10000000, 10000000) ∷
    (neg_ℤ (pos 10000000), pos 0, 10000000) ∷
    (pos 0, neg_ℤ (pos 10000000), 10000000) ∷
    (pos 0, pos 0, 0) ∷
    (pos 30000000, pos 17320508, 34641016) ∷
    (neg_ℤ (pos 26772000), pos 803100, 26784042) ∷
    (neg_ℤ (pos 12345678), neg_ℤ (pos 87654321), 88519465) ∷
    (pos 479797000, neg_ℤ (pos 843500000), 970410949) ∷
    (pos 1, pos 1, 1) ∷
    []

hues :
    map hue_at points ≡
    0 ∷
    90000000 ∷
    180000000 ∷
    270000000 ∷
    0 ∷
    90000000 ∷
    180000000 ∷
    270000000 ∷
    0 ∷
    29999999 ∷
    178281770 ∷
    261982907 ∷
    299631947 ∷
    45000000 ∷
    []
unfolding unit pi alternating series sine_entry grey quadrant_of turned_x turned_y largest reaches tenth_of rest_of angle_of hue_in hue_of hue_at points
hues = refl
