-- The texts that the program writes: figures of 10^-6 with six decimals, a refusal, and the header.
use Rattle.std.specs.Prelude.{List, [], ◌∷◌, ◌++◌, ℕ, ◌+◌, ℤ}
use Rattle.decimal.specs.Writing.{fixed_text}

-- figures with one space between, and a newline
unfoldable pub figures_text : List ℤ → List ℕ
figures_text [] = []
figures_text (z ∷ []) = fixed_text 6 z ++ (10 ∷ [])
figures_text (z ∷ (y ∷ zs)) = fixed_text 6 z ++ (32 ∷ figures_text (y ∷ zs))

-- `refused N`, N being one digit, and a newline
unfoldable pub refused_text : ℕ → List ℕ
refused_text n = 114 ∷ 101 ∷ 102 ∷ 117 ∷ 115 ∷ 101 ∷ 100 ∷ 32 ∷ (48 + n) ∷ 10 ∷ []

-- `de76 de94 de00 dl dc dh` and a newline
unfoldable pub header_text : List ℕ
header_text =
    100 ∷ 101 ∷ 55 ∷ 54 ∷ 32 ∷ 100 ∷ 101 ∷ 57 ∷ 52 ∷ 32 ∷ 100 ∷ 101 ∷ 48 ∷ 48 ∷ 32 ∷ 100 ∷ 108 ∷ 32 ∷ 100 ∷ 99 ∷ 32
    ∷ 100 ∷ 104 ∷ 10 ∷ []
