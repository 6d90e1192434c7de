-- Texts, what is refused of them and what they list, by computation. Assumes nothing.
use mathlib.Core.Path.{◌≡◌, refl}
use mathlib.Core.Bool.{true, false}
use mathlib.Core.List.{List, [], ◌∷◌, ◌++◌}
use Prim.Native.Nat.{ℕ}
use lib.IntN.{pos, negsuc}
use Rattle.buffer.specs.Numbers.{same}
use Rattle.buffer.specs.Parts.{start_with, parts_of}
use Rattle.decimal.specs.Reading.{run_on, run_of, fraction_run, fraction_of, whole_run, decimal_of}
use Rattle.sorting.specs.Order.{put_in, stable_order}
use Rattle.sample.specs.Sample.{colour_refusal, colour_sample}
use Rattle.refusal.specs.Refusals.{first_refusal}
use Rattle.swatches.specs.Swatches.{all, codes, by_lightness}
use Rattle.lab_text.specs.Keywords.{begin_data_format, end_data_format, number_of_sets, begin_data, end_data, sample_id, lab_l, lab_a, lab_b}
use Rattle.lab_text.specs.Fields.{is_number, is_code, is_value, value_in, place_of, order_of, is_names, is_sets, sets_in, is_row, row_in}
use Rattle.lab_text.specs.Text.{row_lines, ends, is_head, rows_of, form_refusal, row_refusal, sets_refusal, size_refusal}
use Rattle.lab_text.specs.Text.{limits_refusal, text_refusal, swatches_of}

-- a line, and a text whose second and fourth line and rows are given; `end` follows the rows
abbrev line : List ℕ → List ℕ
line l = l ++ (10 ∷ [])

abbrev made : List ℕ → ℕ → List ℕ → List ℕ → List ℕ
made names sets rows end =
    line begin_data_format ++ (line names ++ (line end_data_format ++ (line (number_of_sets ++ (32 ∷ sets ∷ [])) ++
    (line begin_data ++ (rows ++ end)))))

abbrev in_order : List ℕ
in_order = sample_id ++ (32 ∷ (lab_l ++ (32 ∷ (lab_a ++ (32 ∷ lab_b)))))

abbrev backwards : List ℕ
backwards = lab_b ++ (32 ∷ (lab_a ++ (32 ∷ (lab_l ++ (32 ∷ sample_id)))))

-- `7 50 0 0`, `8 40.5 -1 2`, `9 50 1 1` and, backwards, `2 -1 40.5 8`
abbrev row₇ : List ℕ
row₇ = 55 ∷ 32 ∷ 53 ∷ 48 ∷ 32 ∷ 48 ∷ 32 ∷ 48 ∷ 10 ∷ []

abbrev row₈ : List ℕ
row₈ = 56 ∷ 32 ∷ 52 ∷ 48 ∷ 46 ∷ 53 ∷ 32 ∷ 45 ∷ 49 ∷ 32 ∷ 50 ∷ 10 ∷ []

abbrev row₉ : List ℕ
row₉ = 57 ∷ 32 ∷ 53 ∷ 48 ∷ 32 ∷ 49 ∷ 32 ∷ 49 ∷ 10 ∷ []

abbrev row₂ : List ℕ
row₂ = 50 ∷ 32 ∷ 45 ∷ 49 ∷ 32 ∷ 52 ∷ 48 ∷ 46 ∷ 53 ∷ 32 ∷ 56 ∷ 10 ∷ []

-- a lightness over 100, and two spaces between words
abbrev over : List ℕ
over = 54 ∷ 32 ∷ 49 ∷ 48 ∷ 49 ∷ 32 ∷ 48 ∷ 32 ∷ 48 ∷ 10 ∷ []

abbrev bad : List ℕ
bad = 55 ∷ 32 ∷ 53 ∷ 48 ∷ 32 ∷ 48 ∷ 32 ∷ 32 ∷ 48 ∷ 10 ∷ []

-- three rows, of which two are equally light: rising lightness, and these two in the order of their rows
pub listed : codes (swatches_of (made in_order 51 (row₇ ++ (row₈ ++ row₉)) (line end_data))) ≡ 8 ∷ 7 ∷ 9 ∷ []
unfolding same start_with parts_of run_on run_of fraction_run fraction_of whole_run decimal_of put_in stable_order colour_refusal colour_sample
    first_refusal all by_lightness begin_data_format end_data_format number_of_sets begin_data end_data sample_id lab_l lab_a lab_b is_number
    is_code is_value value_in place_of order_of is_names is_sets sets_in is_row row_in row_lines ends is_head rows_of form_refusal row_refusal
    sets_refusal size_refusal limits_refusal text_refusal swatches_of
listed = refl

-- each field where its name says
pub named :
    swatches_of (made backwards 49 row₂ (line end_data)) ≡ record { code = 8; l = pos 405000; a = negsuc 9999; b = pos 20000 } ∷ []
unfolding same start_with parts_of run_on run_of fraction_run fraction_of whole_run decimal_of put_in stable_order colour_refusal colour_sample
    first_refusal all by_lightness begin_data_format end_data_format number_of_sets begin_data end_data sample_id lab_l lab_a lab_b is_number
    is_code is_value value_in place_of order_of is_names is_sets sets_in is_row row_in row_lines ends is_head rows_of form_refusal row_refusal
    sets_refusal size_refusal limits_refusal text_refusal swatches_of
named = refl

-- whole; no row; END_DATA without its newline, missing, and followed by an empty line; a name missing; no sets
pub forms :
    text_refusal (made in_order 50 (row₇ ++ row₈) (line end_data)) ∷ text_refusal (made in_order 48 [] (line end_data)) ∷
    text_refusal (made in_order 48 [] end_data) ∷ text_refusal (made in_order 49 row₇ []) ∷
    text_refusal (made in_order 48 [] (line end_data ++ (10 ∷ []))) ∷ text_refusal (made lab_l 48 [] (line end_data)) ∷
    text_refusal (made in_order 32 [] (line end_data)) ∷ [] ≡ 0 ∷ 0 ∷ 14 ∷ 14 ∷ 14 ∷ 14 ∷ 14 ∷ []
unfolding same start_with parts_of run_on run_of fraction_run fraction_of whole_run decimal_of put_in stable_order colour_refusal colour_sample
    first_refusal all by_lightness begin_data_format end_data_format number_of_sets begin_data end_data sample_id lab_l lab_a lab_b is_number
    is_code is_value value_in place_of order_of is_names is_sets sets_in is_row row_in row_lines ends is_head rows_of form_refusal row_refusal
    sets_refusal size_refusal limits_refusal text_refusal swatches_of
forms = refl

-- 14 before 15, 15 before 16, 16 before 7, and 7
pub order :
    text_refusal (made in_order 49 bad []) ∷ text_refusal (made in_order 50 bad (line end_data)) ∷
    text_refusal (made in_order 50 over (line end_data)) ∷ text_refusal (made in_order 49 over (line end_data)) ∷ []
    ≡ 14 ∷ 15 ∷ 16 ∷ 7 ∷ []
unfolding same start_with parts_of run_on run_of fraction_run fraction_of whole_run decimal_of put_in stable_order colour_refusal colour_sample
    first_refusal all by_lightness begin_data_format end_data_format number_of_sets begin_data end_data sample_id lab_l lab_a lab_b is_number
    is_code is_value value_in place_of order_of is_names is_sets sets_in is_row row_in row_lines ends is_head rows_of form_refusal row_refusal
    sets_refusal size_refusal limits_refusal text_refusal swatches_of
order = refl

-- rows end at the first END_DATA
pub first-end : text_refusal (made in_order 50 (row₇ ++ (line end_data ++ row₈)) (line end_data)) ≡ 14
unfolding same start_with parts_of run_on run_of fraction_run fraction_of whole_run decimal_of put_in stable_order colour_refusal colour_sample
    first_refusal all by_lightness begin_data_format end_data_format number_of_sets begin_data end_data sample_id lab_l lab_a lab_b is_number
    is_code is_value value_in place_of order_of is_names is_sets sets_in is_row row_in row_lines ends is_head rows_of form_refusal row_refusal
    sets_refusal size_refusal limits_refusal text_refusal swatches_of
first-end = refl

-- SAMPLE_ID 4294967295 and 4294967296, ten and eleven digits, none
pub ids :
    is_code (52 ∷ 50 ∷ 57 ∷ 52 ∷ 57 ∷ 54 ∷ 55 ∷ 50 ∷ 57 ∷ 53 ∷ []) ∷ is_code (52 ∷ 50 ∷ 57 ∷ 52 ∷ 57 ∷ 54 ∷ 55 ∷ 50 ∷ 57 ∷ 54 ∷ []) ∷
    is_code (48 ∷ 48 ∷ 48 ∷ 48 ∷ 48 ∷ 48 ∷ 48 ∷ 48 ∷ 48 ∷ 55 ∷ []) ∷
    is_code (48 ∷ 48 ∷ 48 ∷ 48 ∷ 48 ∷ 48 ∷ 48 ∷ 48 ∷ 48 ∷ 48 ∷ 55 ∷ []) ∷ is_code [] ∷ []
    ≡ true ∷ false ∷ true ∷ false ∷ false ∷ []
unfolding run_on run_of is_number is_code
ids = refl
