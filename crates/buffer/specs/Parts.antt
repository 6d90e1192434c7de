-- Bytes cut into parts at each byte b: lines at a newline, words at a space.
use Rattle.std.specs.Prelude.{cond, List, [], ◌∷◌, ℕ, eqb}

-- x comes before the first part
unfoldable pub start_with : ℕ → List (List ℕ) → List (List ℕ)
start_with x [] = (x ∷ []) ∷ []
start_with x (p ∷ ps) = (x ∷ p) ∷ ps

-- the parts between the bytes b, which are one more than these
unfoldable pub parts_of : ℕ → List ℕ → List (List ℕ)
parts_of b [] = [] ∷ []
parts_of b (x ∷ xs) = cond (eqb x b) ([] ∷ parts_of b xs) (start_with x (parts_of b xs))
