-- What the code's structs and enums stand for, and what its inner functions say of them.
use Rattle.std.specs.Prelude.{List, [], ◌∷◌, ℕ, ℤ, Option, Some, None, Result, Ok, Err}
use Rattle.std.specs.Borrow.{Bor}
use Rattle.signed.specs.Inner.{int}
use Rattle.refusal.specs.Refusals.{number_of}
use Rattle.refusal.specs.declared.Refusal.{Refusal}
use Rattle.sample.specs.Sample.{Colour}
use Rattle.sample.specs.Inner.{colour}
use Rattle.decimal.specs.Reading.{Found, found, missing}
use Rattle.decimal.specs.Writing.{refused_text}
use Rattle.text.specs.Figures.{figures_text}
use Rattle.text.specs.declared.Decimals.{Decimals}
use Rattle.text.specs.declared.Six.{Six}

abbrev pub colour_read : Decimals → Colour
colour_read d = colour (int d.l) (int d.a) (int d.b)

-- three decimals and the bytes after them
abbrev pub colour_found : Option (Decimals × Bor (List ℕ)) → Found Colour
colour_found (Some p) = found (colour_read p.0) p.1.now
colour_found None = missing

abbrev pub line_found : Option (Decimals × Decimals) → Found (Colour × Colour)
line_found (Some p) = found (colour_read p.0, colour_read p.1) []
line_found None = missing

-- the six figures of a line in millionths
abbrev pub six_list : Six → List ℤ
six_list f = int f.d76 ∷ int f.d94 ∷ int f.d00 ∷ int f.l ∷ int f.c ∷ int f.h ∷ []

-- the text of a line's answer
abbrev pub figures_or_refusal : Result Six Refusal → List ℕ
figures_or_refusal (Ok six) = figures_text (six_list six)
figures_or_refusal (Err e) = refused_text (number_of e)
