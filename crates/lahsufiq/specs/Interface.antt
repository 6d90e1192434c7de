-- What the C interface hands over: each call's refusal number, and its results through pointers. Assumes nothing.
use Rattle.std.specs.Prelude.{◌≡◌, Bool, true, false, cond, List, ℕ, Float, Result, length}
use Rattle.fixed_point.specs.declared.Reading.{Reading}
use Rattle.fixed_point.specs.declared.Weights.{Weights}
use Rattle.deck.specs.Deck.{Deck, Query}
use Rattle.deck.specs.Answers.{Found, Count, Refused as FoundRefused, Short, number_of}
use Rattle.deck.specs.Search.{search_answer, Searches}
use Rattle.deck_file.specs.Transfers.{Columns, write_answer, read_answer, transfer_number, transfer_size, Writes, Reads}
use Rattle.lab_text.specs.Imports.{Columns as LabColumns, import_answer, Imports}
use Rattle.difference.specs.declared.cie94.Application.{Application}
use Rattle.difference.specs.declared.cie94.Application.TheVariants.{GraphicArts, Textiles}
use Rattle.difference.specs.declared.cie94.Comparison.{Comparison}
use Rattle.difference.specs.declared.cie94.Comparison.TheVariants.{WithStandard, WithoutStandard}
use Rattle.measure.specs.Answers.{refusal_of, difference_of}

abbrev pub reading : Float → Float → Float → Reading
reading x y z = record { l = x; a = y; b = z }

abbrev pub weights : Float → Float → Float → Weights
weights x y z = record { l = x; c = y; h = z }

-- CIE94's two truth values: the constants for textiles, and sample 1 a standard
abbrev pub application_of : Bool → Application
application_of true = Textiles
application_of false = GraphicArts

abbrev pub comparison_of : Bool → Comparison
comparison_of true = WithStandard
comparison_of false = WithoutStandard

-- the number returned and the double behind the pointer are those of the answer
pub record Hands (answer : Result Float ℕ) (number : ℕ) (double : Float) : Type 0 where
  pub refusal : number ≡ refusal_of answer
  pub difference : double ≡ difference_of answer

-- a yes or no as 1 or 0
abbrev pub one_of : Bool → ℕ
one_of t = cond t 1 0

-- the number of matches, or with refusal 8 the number needed
abbrev pub handed_count : Found → ℕ
handed_count (Count n) = n
handed_count (FoundRefused k) = 0
handed_count (Short n) = n

-- what a search hands over: the refusal's number, the count, and the list, of which `searched` says the rest
pub record HandsSearch (q : Query) (d : Deck) (old new : List ℕ) (number count : ℕ) : Type 0 where
  pub refusal : number ≡ number_of (search_answer q d (length old))
  pub handed : count ≡ handed_count (search_answer q d (length old))
  pub searched : Searches q d old new (search_answer q d (length old))

-- what the write of a deck file hands over: the refusal's number, the length, and the file
pub record HandsWrite (d : Deck) (old new : List ℕ) (number size : ℕ) : Type 0 where
  pub refusal : number ≡ transfer_number (write_answer d (length old))
  pub handed : size ≡ transfer_size (write_answer d (length old))
  pub written : Writes d old new (write_answer d (length old))

-- what the read of a deck file hands over: the refusal's number, the number of swatches, and the columns
pub record HandsRead (bs : List ℕ) (old new : Columns) (number count : ℕ) : Type 0 where
  pub refusal : number ≡ transfer_number (read_answer bs old)
  pub handed : count ≡ transfer_size (read_answer bs old)
  pub read : Reads bs old new (read_answer bs old)

-- what an import of the lab's text hands over: the refusal's number, the number of swatches, and the columns
pub record HandsImport (text : List ℕ) (old new : LabColumns) (number count : ℕ) : Type 0 where
  pub refusal : number ≡ transfer_number (import_answer text old)
  pub handed : count ≡ transfer_size (import_answer text old)
  pub imported : Imports text old new (import_answer text old)
