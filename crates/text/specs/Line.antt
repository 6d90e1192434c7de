-- Reading a line: six decimals with one space between.
use Rattle.std.specs.Prelude.{List, ℕ}
use Rattle.decimal.specs.Reading.{Found, found, and_then, after_space, decimal_of}
use Rattle.sample.specs.Sample.{Colour}

-- L, a and b: three decimals with one space between
unfoldable pub read_colour : List ℕ → Found Colour
read_colour bs =
    and_then (decimal_of bs) λ l bs₁.
    and_then (decimal_of (after_space bs₁)) λ a bs₂.
    and_then (decimal_of (after_space bs₂)) λ b bs₃.
    found (record { l = l; a = a; b = b }) bs₃

-- sample 1, which is the standard, one space, and sample 2
unfoldable pub read_pair : List ℕ → Found (Colour × Colour)
read_pair bs =
    and_then (read_colour bs) λ s bs₁.
    and_then (read_colour (after_space bs₁)) λ t bs₂.
    found (s, t) bs₂
