-- Whole numbers in bytes, low byte first, and the bytes at a place.
use Rattle.std.specs.Prelude.{Bool, true, false, ◌&&◌, List, [], ◌∷◌, ℕ, zero, suc, ◌+◌, ◌*◌, ◌/◌, ◌%◌, eqb, ℤ, take, drop}
use Rattle.std.specs.Int.{w32, cast_unsigned, cast_signed}

-- the n low bytes of x
unfoldable pub bytes_of : ℕ → ℕ → List ℕ
bytes_of zero x = []
bytes_of (suc n) x = x % 256 ∷ bytes_of n (x / 256)

-- the number that some bytes make
unfoldable pub unsigned_of : List ℕ → ℕ
unsigned_of [] = 0
unsigned_of (b ∷ bs) = b + 256 * unsigned_of bs

-- a signed number of 32 bits, in two's complement: `cast_unsigned w32` gives the bits of a number, `cast_signed w32` the number of some bits
unfoldable pub signed_bytes : ℤ → List ℕ
signed_bytes z = bytes_of 4 (cast_unsigned w32 z)

unfoldable pub signed_of : List ℕ → ℤ
signed_of bs = cast_signed w32 (unsigned_of bs)

-- the n bytes at a place, or as many as there are
abbrev pub field : ℕ → ℕ → List ℕ → List ℕ
field at n bs = take n (drop at bs)

-- whether two texts are the same
unfoldable pub same : List ℕ → List ℕ → Bool
same [] [] = true
same [] (y ∷ ys) = false
same (x ∷ xs) [] = false
same (x ∷ xs) (y ∷ ys) = eqb x y && same xs ys
