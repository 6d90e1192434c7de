-- Files and what is refused of them, by computation. Assumes nothing.
use mathlib.Core.Path.{◌≡◌, refl}
use mathlib.Core.List.{List, [], ◌∷◌, ◌++◌}
use Prim.Native.Nat.{ℕ}
use lib.IntN.{pos, negsuc}
use Rattle.places.specs.Places.{every, rising}
use Rattle.sample.specs.Sample.{colour_refusal}
use Rattle.refusal.specs.Refusals.{first_refusal}
use Rattle.buffer.specs.Numbers.{bytes_of, unsigned_of, signed_bytes, signed_of, same}
use Rattle.deck.specs.Deck.{columns, columns_at, sizes_in, swatches_in, lightness_rises, deck_refusal}
use Rattle.deck_file.specs.Layout.{swatch_bytes, swatches_bytes, header_bytes, file_of, version_in, count_in, colour_in, read_of}
use Rattle.deck_file.specs.Refusals.{mark_refusal, version_refusal, length_refusal, file_refusal, write_refusal, read_refusal}

-- L 50, a 2.6772, b -79.7751
pub one-swatch :
    file_of (columns (pos 500000 ∷ []) (pos 26772 ∷ []) (negsuc 797750 ∷ []))
    ≡ 70 ∷ 65 ∷ 78 ∷ 1 ∷ 0 ∷ 1 ∷ 0 ∷ 32 ∷ 161 ∷ 7 ∷ 0 ∷ 148 ∷ 104 ∷ 0 ∷ 0 ∷ 201 ∷ 211 ∷ 243 ∷ 255 ∷ []
unfolding bytes_of signed_bytes columns_at swatch_bytes swatches_bytes header_bytes file_of
one-swatch = refl

-- a header that says so many swatches
abbrev fan : ℕ → List ℕ → List ℕ
fan count rest = 70 ∷ 65 ∷ 78 ∷ 1 ∷ 0 ∷ count ∷ 0 ∷ rest

-- a grey swatch
abbrev grey : ℕ → List ℕ
grey l = l ∷ 0 ∷ 0 ∷ 0 ∷ 0 ∷ 0 ∷ 0 ∷ 0 ∷ 0 ∷ 0 ∷ 0 ∷ 0 ∷ []

-- the end inside the mark, the version and the count; a wrong mark and a wrong version
pub cut :
    file_refusal [] ∷ file_refusal (70 ∷ 65 ∷ []) ∷ file_refusal (70 ∷ 65 ∷ 79 ∷ 1 ∷ 0 ∷ 0 ∷ 0 ∷ []) ∷
    file_refusal (70 ∷ 65 ∷ 78 ∷ []) ∷ file_refusal (70 ∷ 65 ∷ 78 ∷ 1 ∷ []) ∷ file_refusal (70 ∷ 65 ∷ 78 ∷ 1 ∷ 1 ∷ 0 ∷ 0 ∷ []) ∷
    file_refusal (70 ∷ 65 ∷ 78 ∷ 1 ∷ 0 ∷ []) ∷ file_refusal (70 ∷ 65 ∷ 78 ∷ 1 ∷ 0 ∷ 0 ∷ []) ∷ []
    ≡ 10 ∷ 10 ∷ 10 ∷ 11 ∷ 11 ∷ 11 ∷ 12 ∷ 12 ∷ []
unfolding bytes_of unsigned_of signed_of same every rising colour_refusal first_refusal swatches_in lightness_rises deck_refusal
    version_in count_in colour_in mark_refusal version_refusal length_refusal file_refusal
cut = refl

-- no swatch; a byte too many; a swatch too few; two in order and out of order; the first outside the limits
pub swatches :
    file_refusal (fan 0 []) ∷ file_refusal (fan 0 (0 ∷ [])) ∷ file_refusal (fan 2 (grey 5)) ∷
    file_refusal (fan 2 (grey 5 ++ grey 5)) ∷ file_refusal (fan 2 (grey 5 ++ grey 4)) ∷
    file_refusal (fan 1 (0 ∷ 0 ∷ 0 ∷ 255 ∷ 0 ∷ 0 ∷ 0 ∷ 0 ∷ 0 ∷ 0 ∷ 0 ∷ 0 ∷ [])) ∷ [] ≡ 0 ∷ 12 ∷ 12 ∷ 0 ∷ 7 ∷ 7 ∷ []
unfolding bytes_of unsigned_of signed_of same every rising colour_refusal first_refusal swatches_in lightness_rises deck_refusal
    version_in count_in colour_in mark_refusal version_refusal length_refusal file_refusal
swatches = refl

-- 6 comes of the count alone
pub too_many : deck_refusal (read_of (70 ∷ 65 ∷ 78 ∷ 1 ∷ 0 ∷ 1 ∷ 16 ∷ [])) ≡ 6
unfolding unsigned_of count_in deck_refusal
too_many = refl

-- a write with a byte too few, and with room enough; 6 and 7 before 13
pub rooms-of-a-file :
    write_refusal (columns [] [] []) 6 ∷ write_refusal (columns [] [] []) 7 ∷ write_refusal (columns (pos 1 ∷ []) [] []) 0 ∷
    write_refusal (columns (negsuc 0 ∷ []) (pos 0 ∷ []) (pos 0 ∷ [])) 0 ∷ [] ≡ 13 ∷ 0 ∷ 6 ∷ 7 ∷ []
unfolding every rising colour_refusal first_refusal columns_at sizes_in swatches_in lightness_rises deck_refusal bytes_of signed_bytes
    swatch_bytes swatches_bytes header_bytes file_of write_refusal
rooms-of-a-file = refl

-- a read with room enough, and with one entry too few in each column on its own; 7 before 13
pub rooms-of-columns :
    read_refusal (fan 1 (grey 5)) 1 1 1 ∷ read_refusal (fan 1 (grey 5)) 0 1 1 ∷ read_refusal (fan 1 (grey 5)) 1 0 1 ∷
    read_refusal (fan 1 (grey 5)) 1 1 0 ∷ read_refusal (fan 2 (grey 5 ++ grey 4)) 0 0 0 ∷ [] ≡ 0 ∷ 13 ∷ 13 ∷ 13 ∷ 7 ∷ []
unfolding bytes_of unsigned_of signed_of same every rising colour_refusal first_refusal swatches_in lightness_rises deck_refusal
    version_in count_in colour_in mark_refusal version_refusal length_refusal file_refusal read_refusal
rooms-of-columns = refl
