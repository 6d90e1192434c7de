-- What the reading of a text, and its import to lent columns, promise.
use Rattle.std.specs.Prelude.{◌≡◌, Bool, ◌&&◌, List, [], ◌∷◌, ℕ, ◌≤◌, leb, ℤ, length, take, drop}
use Rattle.sorting.specs.Order.{IsStableOrder}
use Rattle.refusal.specs.Refusals.{first_refusal}
use Rattle.deck.specs.Deck.{Deck, most_swatches, columns, deck_refusal}
use Rattle.deck_file.specs.Refusals.{room_refusal}
use Rattle.deck_file.specs.Transfers.{Transfer, transfer_of, transfer_number, transfer_size, contents_of}
use Rattle.swatches.specs.Swatches.{codes, lightnesses, green_reds, blue_yellows, lightness_at, lightness_order}
use Rattle.swatches.specs.declared.Swatch.{Swatch}
use Rattle.lab_text.specs.Text.{rows_of, text_refusal, swatches_of}
use Rattle.lab_text.specs.declared.LabDeck.{LabDeck}

-- the rows in the order of the deck: a permutation, lightness never falls, rows of equal lightness in their old order
abbrev pub InDeckOrder : List ℕ → Type 0
InDeckOrder text =
    let rows = rows_of text in IsStableOrder (lightness_at rows) (length rows) (lightness_order rows)

-- ---- the deck of a text, in a list with room for any

-- of a text that is not refused. What the list holds past the swatches is left open
pub record IsLabDeck (text : List ℕ) (d : LabDeck) : Type 0 where
  pub is : take d.count d.swatches ≡ swatches_of text
  pub most : d.count ≤ most_swatches
  pub size : length d.swatches ≡ most_swatches

-- the first that applies to an import, where `fits n` says whether there is room for n swatches: 13 comes last
unfoldable pub refusal_for : List ℕ → (ℕ → Bool) → ℕ
refusal_for text fits = first_refusal (text_refusal text ∷ room_refusal (fits (length (swatches_of text))) ∷ [])

-- ---- lent columns

-- four columns that were lent
pub record Columns : Type 0 where
  pub code : List ℕ
  pub l : List ℤ
  pub a : List ℤ
  pub b : List ℤ

abbrev pub lent : List ℕ → List ℤ → List ℤ → List ℤ → Columns
lent code l a b = record { code = code; l = l; a = a; b = b }

-- each column has room for n
abbrev pub columns_fit : Columns → ℕ → Bool
columns_fit c n = leb n (length c.code) && (leb n (length c.l) && (leb n (length c.a) && leb n (length c.b)))

unfoldable pub import_refusal : List ℕ → Columns → ℕ
import_refusal text old = refusal_for text (columns_fit old)

abbrev pub import_answer : List ℕ → Columns → Transfer
import_answer text old = transfer_of (import_refusal text old) (length (swatches_of text))

-- the columns of some swatches, in front of what the lent ones held
unfoldable pub columns_after : ℕ → List Swatch → Columns → Columns
columns_after refusal ss old =
    record {
      code = contents_of refusal (codes ss) old.code;
      l = contents_of refusal (lightnesses ss) old.l;
      a = contents_of refusal (green_reds ss) old.a;
      b = contents_of refusal (blue_yellows ss) old.b;
    }

-- the deck that the first n entries make, and the entries past them
abbrev pub front : ℕ → Columns → Deck
front n c = columns (take n c.l) (take n c.a) (take n c.b)

abbrev pub rest : ℕ → Columns → Columns
rest n c = lent (drop n c.code) (drop n c.l) (drop n c.a) (drop n c.b)

-- of a text, and the caller's columns before and after
pub record Imports (text : List ℕ) (old new : Columns) (r : Transfer) : Type 0 where
  -- for every call, the answer and the columns
  pub answer : r ≡ import_answer text old
  pub contents : new ≡ columns_after (import_refusal text old) (swatches_of text) old
  -- the refusal's number, the first that applies of 14, 15, 16, 6, 7 and 13
  pub number : transfer_number r ≡ import_refusal text old
  -- from the count that is answered on, which on a refusal is 0, the columns are as they were
  pub kept : rest (transfer_size r) new ≡ rest (transfer_size r) old
  -- what was imported is a deck that no search refuses, its rows in order
  pub valid : import_refusal text old ≡ 0 → deck_refusal (front (transfer_size r) new) ≡ 0
  pub ordered : InDeckOrder text
