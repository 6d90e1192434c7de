-- Where the parts of some bytes start and end.
use Rattle.std.specs.Prelude.{◌≡◌, cond, List, [], ◌∷◌, ℕ, ◌+◌, ◌-◌, ◌≤◌, leb, length, get_or, take, drop}
use Rattle.buffer.specs.Parts.{parts_of}

-- the parts of the bytes from a place on, and none from a place past their end
unfoldable pub parts_from : ℕ → List ℕ → ℕ → List (List ℕ)
parts_from b bytes at = cond (leb at (length bytes)) (parts_of b (drop at bytes)) []

-- the part that starts at `at` ends at r, and the next one starts after it
pub record PartEnds (b : ℕ) (bytes : List ℕ) (at r : ℕ) : Type 0 where
  pub low : at ≤ r
  pub high : r ≤ length bytes
  pub is : parts_from b bytes at ≡ take (r - at) (drop at bytes) ∷ parts_from b bytes (r + 1)

-- the first of some parts, and no bytes where there is none
abbrev pub first_part : List (List ℕ) → List ℕ
first_part ps = get_or ps 0 []
