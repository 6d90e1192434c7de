-- What a line says, from what was found at its places.
use mathlib.Core.Path.{◌≡◌, refl, sym}
use mathlib.Core.List.{List, [], ◌∷◌}
use Prim.Native.Nat.{ℕ, ◌<◌}
use native.Mathlib.Omega.{arith}
use lib.IntN.{ℤ}
use lib.ListN.{length}
use Rattle.decimal.specs.Reading.{found, missing, after_space, decimal_of}
use Rattle.sample.specs.Sample.{Colour}
use Rattle.text.specs.Line.{read_colour, read_pair}
use Rattle.text.specs.Text.{answer_of}

module _ (bs : List ℕ) where
  pub colour-none : decimal_of bs ≡ missing → missing ≡ read_colour bs
  unfolding read_colour
  colour-none e = sym (rw e)

  module _ {l : ℤ} {p : List ℕ} (e : decimal_of bs ≡ found l p) where
    pub colour-one : decimal_of (after_space p) ≡ missing → missing ≡ read_colour bs
    unfolding read_colour
    colour-one f = sym (rw (e, f))

    module _ {a : ℤ} {q : List ℕ} (f : decimal_of (after_space p) ≡ found a q) where
      pub colour-two : decimal_of (after_space q) ≡ missing → missing ≡ read_colour bs
      unfolding read_colour
      colour-two g = sym (rw (e, f, g))

      pub colour-three : {b : ℤ} {o : List ℕ} → decimal_of (after_space q) ≡ found b o
          → found (record { l = l; a = a; b = b }) o ≡ read_colour bs
      unfolding read_colour
      colour-three g = sym (rw (e, f, g))

  pub pair-none : read_colour bs ≡ missing → missing ≡ read_pair bs
  unfolding read_pair
  pair-none e = sym (rw e)

  module _ {v : Colour} {p : List ℕ} (e : read_colour bs ≡ found v p) where
    pub pair-of-one : read_colour (after_space p) ≡ missing → missing ≡ read_pair bs
    unfolding read_pair
    pair-of-one f = sym (rw (e, f))

    pub pair-two : {w : Colour} {q o : List ℕ} → read_colour (after_space p) ≡ found w q → q ≡ o
        → found (v, w) o ≡ read_pair bs
    unfolding read_pair
    pair-two f g = sym (rw (e, f, g))

pub nothing_left : (q : List ℕ) → length q ≡ 0 → q ≡ []
nothing_left [] h = refl
nothing_left (b ∷ q) h = absurd (omega arith)

-- something stands after sample 2
pub more-refused : (x : Colour × Colour) (q : List ℕ) → 0 < length q → answer_of missing ≡ answer_of (found x q)
unfolding answer_of
more-refused x [] h = absurd (omega arith)
more-refused x (b ∷ q) h = refl
