-- The hue of a point (step 5): its quadrant, the tenth of a degree below, and the rest.
-- A hue is a whole number of 10^-6 degree, a sine of 10^-9; a, b and the chroma are in one unit, whatever it is.
-- Assumes nothing.
use Rattle.std.specs.Prelude.{Bool, cond, ◌&&◌, ℕ, zero, suc, ◌+◌, ◌-◌, ◌*◌, ◌/◌, ◌%◌, min, leb, eqb, ℤ, pos, nat_abs}
use Rattle.std.specs.Int.Signed.{lt_z, le_z}
use Rattle.sine.specs.Sine.{sine_entry, cosine_entry}

-- a = b = 0
unfoldable pub grey : ℤ → ℤ → Bool
grey a b = eqb (nat_abs a) 0 && eqb (nat_abs b) 0

-- what stands for the quadrant of a grey colour, which is in none
abbrev pub grey_quadrant : ℕ
grey_quadrant = 4

-- 0 to 3, or that of grey
unfoldable pub quadrant_of : ℤ → ℤ → ℕ
quadrant_of a b =
    cond (lt_z (pos 0) a && le_z (pos 0) b) 0
    (cond (le_z a (pos 0) && lt_z (pos 0) b) 1
    (cond (lt_z a (pos 0) && le_z b (pos 0)) 2
    (cond (le_z (pos 0) a && lt_z b (pos 0)) 3
    grey_quadrant)))

-- the point turned into quadrant 0 by whole quarter turns: x is the size of a in the quadrants 0 and 2, of b in 1 and 3, and y the other
unfoldable pub turned_x : ℕ → ℤ → ℤ → ℕ
turned_x quadrant a b = cond (eqb (quadrant % 2) 0) (nat_abs a) (nat_abs b)

unfoldable pub turned_y : ℕ → ℤ → ℤ → ℕ
turned_y quadrant a b = cond (eqb (quadrant % 2) 0) (nat_abs b) (nat_abs a)

-- the largest number from 0 to n for which p holds, where p holds for 0
unfoldable pub largest : (ℕ → Bool) → ℕ → ℕ
largest p zero = zero
largest p (suc n) = cond (p (suc n)) (suc n) (largest p n)

-- y cos k - x sin k ≥ 0
unfoldable pub reaches : ℕ → ℕ → ℕ → Bool
reaches x y k = leb (x * sine_entry k) (y * cosine_entry k)

-- the hue's whole tenths of a degree, in quadrant 0
unfoldable pub tenth_of : ℕ → ℕ → ℕ
tenth_of x y = largest (reaches x y) 899

-- the rest past k tenths: the sine of the rest in 10^-9, taken for its arc, in 10^-6 degree
unfoldable pub rest_of : ℕ → ℕ → ℕ → ℕ → ℕ
rest_of x y k chroma = min 99999 ((y * cosine_entry k - x * sine_entry k) / chroma * 57295780 / 1000000000)

-- the hue in quadrant 0
unfoldable pub angle_of : ℕ → ℕ → ℕ → ℕ
angle_of x y chroma = 100000 * tenth_of x y + rest_of x y (tenth_of x y) chroma

-- 90 degrees for each quadrant before
unfoldable pub hue_in : ℕ → ℤ → ℤ → ℕ → ℕ
hue_in quadrant a b chroma = 90000000 * quadrant + angle_of (turned_x quadrant a b) (turned_y quadrant a b) chroma

-- grey has the hue 0
unfoldable pub hue_of : ℤ → ℤ → ℕ → ℕ
hue_of a b chroma = cond (grey a b) 0 (hue_in (quadrant_of a b) a b chroma)
