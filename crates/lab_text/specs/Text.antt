-- The lab's text: the lines, what is refused of them, and the swatches of an accepted text.
use Rattle.std.specs.Prelude.{Bool, false, ◌&&◌, cond, List, [], ◌∷◌, map, ℕ, leb, eqb, length, get_or, drop}
use Rattle.buffer.specs.Numbers.{same}
use Rattle.buffer.specs.Parts.{parts_of}
use Rattle.refusal.specs.Refusals.{first_refusal}
use Rattle.deck.specs.Deck.{most_swatches}
use Rattle.lab_text.specs.Keywords.{begin_data_format, end_data_format, begin_data, end_data}
use Rattle.lab_text.specs.Fields.{is_empty, is_names, order_of, is_sets, sets_in, is_row, row_in}
use Rattle.swatches.specs.Swatches.{all, is_within, by_lightness}
use Rattle.swatches.specs.declared.Swatch.{Swatch}
use Rattle.lab_text.specs.declared.head.Order.{Order}

-- ---- lines

-- the text cut at each newline. Each line is ended by one, so the last part of a whole text is empty and is no line
abbrev pub lines_of : List ℕ → List (List ℕ)
lines_of text = parts_of 10 text

abbrev pub line_at : List ℕ → ℕ → List ℕ
line_at text k = get_or (lines_of text) k []

-- the lines after the fifth: rows, END_DATA and what may come after it
abbrev pub body_of : List ℕ → List (List ℕ)
body_of text = drop 5 (lines_of text)

-- nothing is left but the empty part after the last newline
abbrev pub is_end : List (List ℕ) → Bool
is_end [] = false
is_end (p ∷ []) = is_empty p
is_end (p ∷ (q ∷ ps)) = false

-- the rows: the lines before the first END_DATA
unfoldable pub row_lines : List (List ℕ) → List (List ℕ)
row_lines [] = []
row_lines (l ∷ ls) = cond (same l end_data) [] (l ∷ row_lines ls)

-- whether there is an END_DATA, and nothing but its newline after the first one
unfoldable pub ends : List (List ℕ) → Bool
ends [] = false
ends (l ∷ ls) = cond (same l end_data) (is_end ls) (ends ls)

-- ---- the five lines before the rows

unfoldable pub is_head : List ℕ → Bool
is_head text =
    same (line_at text 0) begin_data_format
    && (is_names (line_at text 1)
    && (same (line_at text 2) end_data_format && (is_sets (line_at text 3) && same (line_at text 4) begin_data)))

-- ---- rows

abbrev pub row_order : List ℕ → Order
row_order text = order_of (line_at text 1)

-- the swatches in the order of their rows
unfoldable pub rows_of : List ℕ → List Swatch
rows_of text = map (row_in (row_order text)) (row_lines (body_of text))

-- ---- refusals

-- 14: a keyword or a name is missing or unknown, or anything else is wrong outside the rows
unfoldable pub form_refusal : List ℕ → ℕ
form_refusal text = cond (is_head text && ends (body_of text)) 0 14

-- 15: a row is malformed
unfoldable pub row_refusal : List ℕ → ℕ
row_refusal text = cond (all (is_row (row_order text)) (row_lines (body_of text))) 0 15

-- 16: the number of rows is not NUMBER_OF_SETS
unfoldable pub sets_refusal : List ℕ → ℕ
sets_refusal text = cond (eqb (length (rows_of text)) (sets_in (line_at text 3))) 0 16

-- 6: more than 4,096 rows
unfoldable pub size_refusal : List ℕ → ℕ
size_refusal text = cond (leb (length (rows_of text)) most_swatches) 0 6

-- 7: a value is outside the limits
unfoldable pub limits_refusal : List ℕ → ℕ
limits_refusal text = cond (all is_within (rows_of text)) 0 7

-- the first that applies to a text
unfoldable pub text_refusal : List ℕ → ℕ
text_refusal text =
    first_refusal (form_refusal text ∷ row_refusal text ∷ sets_refusal text ∷ size_refusal text ∷ limits_refusal text ∷ [])

-- ---- the deck

-- the swatches in rising lightness, those of equal lightness in the order of their rows
unfoldable pub swatches_of : List ℕ → List Swatch
swatches_of text = by_lightness (rows_of text)
