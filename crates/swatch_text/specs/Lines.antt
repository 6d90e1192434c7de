-- The lines that an import is printed as.
use Rattle.std.specs.Prelude.{List, [], ◌∷◌, ◌++◌, ℕ}
use Rattle.decimal.specs.Writing.{digits_of, fixed_text}
use Rattle.swatches.specs.declared.Swatch.{Swatch}

-- `CODE L a b`, the code in digits and the others with four decimals, one space between, and a newline
unfoldable pub swatch_text : Swatch → List ℕ
swatch_text s =
    (digits_of s.code ++ (32 ∷ [])) ++ ((fixed_text 4 s.l ++ (32 ∷ []))
    ++ ((fixed_text 4 s.a ++ (32 ∷ [])) ++ (fixed_text 4 s.b ++ (10 ∷ []))))
