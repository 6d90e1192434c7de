-- The text program's whole output as a function of its input.
use Rattle.std.specs.Prelude.{cond, List, [], ◌∷◌, ◌++◌, ℕ, ltb, eqb, length, ℤ, pos}
use Rattle.buffer.specs.Parts.{start_with}
use Rattle.sample.specs.Sample.{Sample, Colour, colour_refusal, colour_sample}
use Rattle.refusal.specs.Refusals.{first_of}
use Rattle.sample.specs.declared.FixedWeights.{FixedWeights}
use Rattle.difference.specs.Cie76.{cie76_of}
use Rattle.difference.specs.Cie94.{cie94_of}
use Rattle.difference.specs.declared.cie94.Application.TheVariants.{GraphicArts}
use Rattle.difference.specs.declared.cie94.Comparison.TheVariants.{WithStandard}
use Rattle.difference.specs.Ciede2000.{Figures, figures_of}
use Rattle.decimal.specs.Reading.{Found, found, missing}
use Rattle.text.specs.Line.{read_pair}
use Rattle.text.specs.Figures.{figures_text, refused_text, header_text}

-- each weight is 1
unfoldable pub plain_weights : FixedWeights
plain_weights = record { l = 10000; c = 10000; h = 10000 }

unfoldable pub figures_list : ℕ → ℕ → Figures → List ℤ
figures_list d76 d94 f = pos d76 ∷ pos d94 ∷ pos f.difference ∷ f.parts.l ∷ f.parts.c ∷ f.parts.h ∷ []

-- CIE76, CIE94 with 45 and 15 and sample 1 as a standard, CIEDE2000 and its three parts
unfoldable pub figures_line : Sample → Sample → List ℕ
figures_line s t = figures_text (figures_list (cie76_of s t) (cie94_of GraphicArts WithStandard plain_weights s t) (figures_of plain_weights s t))

-- figures where nothing is refused; sample 1 comes before sample 2
unfoldable pub pair_answer : Colour → Colour → List ℕ
pair_answer s t =
    let n = first_of (colour_refusal s) (colour_refusal t) in
    cond (eqb n 0) (figures_line (colour_sample s) (colour_sample t)) (refused_text n)

-- nothing stands after sample 2; 9 comes before all others
unfoldable pub answer_of : Found (Colour × Colour) → List ℕ
answer_of (found p []) = pair_answer p.0 p.1
answer_of (found p (b ∷ bs)) = refused_text 9
answer_of missing = refused_text 9

-- the most bytes of a line that is read
abbrev pub line_most : ℕ
line_most = 96

-- a line so far: its bytes, or that they are more than a line has
pub data Held : Type 0 where
  part : List ℕ → Held
  too_long : Held

unfoldable pub held_of : List ℕ → Held
held_of l = cond (ltb line_most (length l)) too_long (part l)

unfoldable pub held_answer : Held → List ℕ
held_answer (part l) = answer_of (read_pair l)
held_answer too_long = refused_text 9

-- the answers of lines, each with its newline
unfoldable pub answers_of : List (List ℕ) → List ℕ
answers_of [] = []
answers_of (l ∷ ls) = held_answer (held_of l) ++ answers_of ls

-- a newline ends a line, and the last line may lack it
unfoldable pub lines_of : List ℕ → List (List ℕ)
lines_of [] = []
lines_of (b ∷ bs) = cond (eqb b 10) ([] ∷ lines_of bs) (start_with b (lines_of bs))

unfoldable pub text_of : List ℕ → List ℕ
text_of input = header_text ++ answers_of (lines_of input)
