-- Lines of one or more words, with one space between: the names, the number of rows, and a row.
use Rattle.std.specs.Prelude.{Bool, true, false, ◌&&◌, cond, List, [], ◌∷◌, ℕ, suc, leb, ltb, eqb, ℤ, pos, length, get_or}
use Rattle.buffer.specs.Numbers.{same}
use Rattle.buffer.specs.Parts.{parts_of}
use Rattle.decimal.specs.Reading.{Found, found, missing, run_of, decimal_of}
use Rattle.lab_text.specs.Keywords.{number_of_sets, sample_id, lab_l, lab_a, lab_b}
use Rattle.swatches.specs.declared.Swatch.{Swatch}
use Rattle.lab_text.specs.declared.head.Order.{Order}

-- the words of a line; two spaces have an empty word between them, and so has a space at the line's start or end before or
-- after it
abbrev pub words_of : List ℕ → List (List ℕ)
words_of line = parts_of 32 line

-- the word at a place, counted from 0
abbrev pub word_at : List (List ℕ) → ℕ → List ℕ
word_at words k = get_or words k []

-- ---- a word that is a number

abbrev pub is_empty : List ℕ → Bool
is_empty [] = true
is_empty (x ∷ xs) = false

-- one digit or more, at most `most` of them, and nothing else
unfoldable pub is_number : ℕ → List ℕ → Bool
is_number most word = let r = run_of most word in ltb 0 r.count && is_empty r.rest

abbrev pub number_in : ℕ → List ℕ → ℕ
number_in most word = (run_of most word).value

-- SAMPLE_ID: one to ten digits, at most 4,294,967,295
unfoldable pub is_code : List ℕ → Bool
is_code word = is_number 10 word && leb (number_in 10 word) 4294967295

-- LAB_L, LAB_A, LAB_B: a decimal and nothing else, in 1/10,000
abbrev pub is_whole : Found ℤ → Bool
is_whole (found v rest) = is_empty rest
is_whole missing = false

abbrev pub found_value : Found ℤ → ℤ
found_value (found v rest) = v
found_value missing = pos 0

unfoldable pub is_value : List ℕ → Bool
is_value word = is_whole (decimal_of word)

unfoldable pub value_in : List ℕ → ℤ
value_in word = found_value (decimal_of word)

-- ---- line 2, the names

-- where a word stands first among others, and their number where it does not
unfoldable pub place_of : List ℕ → List (List ℕ) → ℕ
place_of word [] = 0
place_of word (w ∷ ws) = cond (same w word) 0 (suc (place_of word ws))

-- at which place of a row each field stands
unfoldable pub order_of : List ℕ → Order
order_of line =
    let ws = words_of line in
    record { code = place_of sample_id ws; l = place_of lab_l ws; a = place_of lab_a ws; b = place_of lab_b ws }

-- four words, among them each of the four names
unfoldable pub is_names : List ℕ → Bool
is_names line =
    let o = order_of line in
    eqb (length (words_of line)) 4 && (ltb o.code 4 && (ltb o.l 4 && (ltb o.a 4 && ltb o.b 4)))

-- ---- line 4, the number of rows

-- two words, NUMBER_OF_SETS and one to five digits
unfoldable pub is_sets : List ℕ → Bool
is_sets line =
    let ws = words_of line in eqb (length ws) 2 && (same (word_at ws 0) number_of_sets && is_number 5 (word_at ws 1))

unfoldable pub sets_in : List ℕ → ℕ
sets_in line = number_in 5 (word_at (words_of line) 1)

-- ---- a row

-- four words, each of the form that its name asks for
unfoldable pub is_row : Order → List ℕ → Bool
is_row o line =
    let ws = words_of line in
    eqb (length ws) 4
    && (is_code (word_at ws o.code) && (is_value (word_at ws o.l) && (is_value (word_at ws o.a) && is_value (word_at ws o.b))))

unfoldable pub row_in : Order → List ℕ → Swatch
row_in o line =
    let ws = words_of line in
    record {
      code = number_in 10 (word_at ws o.code);
      l = value_in (word_at ws o.l);
      a = value_in (word_at ws o.a);
      b = value_in (word_at ws o.b);
    }
