-- The layout of a deck file: the mark, a 16-bit version, a 16-bit count, then 12 bytes a swatch, L, a and b as signed
-- 32-bit numbers of 1/10,000; all low byte first.
use Rattle.std.specs.Prelude.{List, [], ◌∷◌, ◌++◌, ℕ, zero, suc, ◌+◌, ◌*◌, leb}
use Rattle.buffer.specs.Numbers.{bytes_of, unsigned_of, signed_bytes, signed_of, field}
use Rattle.sample.specs.Sample.{Colour}
use Rattle.deck.specs.Deck.{Deck, most_swatches}

-- FAN
abbrev pub mark : List ℕ
mark = 70 ∷ 65 ∷ 78 ∷ []

abbrev pub version : ℕ
version = 1

-- ---- the file of a deck

unfoldable pub swatch_bytes : Colour → List ℕ
swatch_bytes c = signed_bytes c.l ++ (signed_bytes c.a ++ signed_bytes c.b)

-- the swatches at the places below n
unfoldable pub swatches_bytes : (ℕ → Colour) → ℕ → List ℕ
swatches_bytes colour zero = []
swatches_bytes colour (suc n) = swatches_bytes colour n ++ swatch_bytes (colour n)

unfoldable pub header_bytes : ℕ → List ℕ
header_bytes count = mark ++ (bytes_of 2 version ++ bytes_of 2 count)

unfoldable pub file_of : Deck → List ℕ
file_of d = header_bytes d.count ++ swatches_bytes d.colour d.count

-- ---- the deck of a file

unfoldable pub version_in : List ℕ → ℕ
version_in bs = unsigned_of (field 3 2 bs)

unfoldable pub count_in : List ℕ → ℕ
count_in bs = unsigned_of (field 5 2 bs)

unfoldable pub colour_in : List ℕ → ℕ → Colour
colour_in bs k =
    record {
      l = signed_of (field (7 + 12 * k) 4 bs);
      a = signed_of (field (11 + 12 * k) 4 bs);
      b = signed_of (field (15 + 12 * k) 4 bs);
    }

-- its size is in order where its count is at most 4,096
abbrev pub read_of : List ℕ → Deck
read_of bs = record { sized = leb (count_in bs) most_swatches; count = count_in bs; colour = colour_in bs }
