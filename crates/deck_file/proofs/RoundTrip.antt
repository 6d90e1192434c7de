-- Reading what was written gives the deck, and writing what was read gives the bytes. Assumes nothing.
use mathlib.Core.Path.{◌≡◌, refl, sym, ap, ap₂, ◌∙◌}
use mathlib.Core.Bool.{Bool, true, false, ◌&&◌, cond, and-eq-true_iff}
use mathlib.Core.List.{List, [], ◌∷◌, ◌++◌}
use Prim.Native.Nat.{ℕ, zero, suc, ◌+◌, ◌*◌, ◌≤◌, ◌<◌}
use native.Mathlib.Nat.{le_refl}
use native.Mathlib.Decide.{dec_lt}
use native.Mathlib.Omega.{arith}
use borrow.Author.Tests.{le-leb, eqb-true, eq-eqb}
use lib.Dec.{leb, eqb}
use lib.IntN.{ℤ, pos, negsuc, nat_abs}
use lib.ListN.{length, take, drop, drop_of_length-le, get_or-eq_default}
use lib.Seq.{take_all, drop-drop, drop-append-add}
use Rattle.places.specs.Places.{at, column_of}
use Rattle.places.proofs.Columns.{column-length, column-at, column-past}
use Rattle.sample.specs.Sample.{Colour, colour_refusal, colour_sample}
use Rattle.refusal.specs.Refusals.{first_of, first_refusal}
use Rattle.sample.proofs.SampleLaws.{accepted-in}
use Rattle.refusal.proofs.RefusalLaws.{none_of, first-none, first-last, first_then}
use Rattle.buffer.specs.Numbers.{bytes_of, unsigned_of, signed_bytes, signed_of, field, same}
use Rattle.buffer.proofs.NumberLaws.{Bytes, field-join, bytes-of-field, signed_back, bytes_back, same-is}
use Rattle.deck.specs.Deck.{Deck, most_swatches, columns_at, columns, deck_refusal}
use Rattle.deck.specs.Inner.{Sizes}
use Rattle.deck.proofs.DeckLaws.{sizes-are, sizes-in, deck-valid}
use Rattle.deck_file.specs.Layout.{mark, version, swatch_bytes, swatches_bytes, header_bytes, file_of}
use Rattle.deck_file.specs.Layout.{version_in, count_in, colour_in, read_of}
use Rattle.deck_file.specs.Refusals.{mark_refusal, version_refusal, length_refusal, file_refusal, write_refusal}
use Rattle.deck_file.specs.Transfers.{Transfer, IsFile, Writes, Reads, Columns, front, transfer_size, lent_refusal}
use Rattle.deck_file.specs.Inner.{form_refusal, colour}
use Rattle.deck_file.proofs.Swatches.{ap₃, swatches-length, swatch-from}

-- ---- a deck, written

-- a deck that can be kept: its count is at most 4,096, and past its places stands 0
abbrev pub blank : Colour
blank = record { l = pos 0; a = pos 0; b = pos 0 }

pub record Kept (d : Deck) : Type 0 where
  pub most : d.count ≤ most_swatches
  pub past : (k : ℕ) → d.count ≤ k → d.colour k ≡ blank

pub columns-sizes : (l a b : List ℤ) → deck_refusal (columns l a b) ≡ 0 → Sizes l a b
columns-sizes l a b e = sizes-are l a b (deck-valid (columns l a b) e).sized

-- columns whose sizes are in order are such a deck
pub columns-kept : (l a b : List ℤ) → Sizes l a b → Kept (columns l a b)
unfolding columns_at
columns-kept l a b s =
    let nothing : (xs : List ℤ) (k : ℕ) → length xs ≤ k → at xs k ≡ pos 0 = λ xs k h. get_or-eq_default xs (pos 0) h in
    record {
      most = s.most;
      past = λ k h.
          ap₃ colour (nothing l k h) (nothing a k (omega (arith, s.a_is))) (nothing b k (omega (arith, s.b_is)));
    }

-- a number within the limits is read back
number-back : (z : ℤ) → nat_abs z ≤ 1280000 → signed_of (signed_bytes z) ≡ z
number-back (pos n) h = signed_back (pos n) (omega (arith, h))
number-back (negsuc n) h = signed_back (negsuc n) (omega (arith, h))

-- bytes that go on so from a place hold the swatch there
colour-there : (bs rest : List ℕ) (c : Colour) (k : ℕ) → colour_refusal c ≡ 0
    → drop (7 + 12 * k) bs ≡ swatch_bytes c ++ rest → colour_in bs k ≡ c
unfolding colour_sample colour_in swatch_bytes signed_bytes bytes_of
colour-there bs rest c k e from =
    let within = accepted-in c e in
    let later : (j at : ℕ) → at ≡ 7 + 12 * k + j → field at 4 bs ≡ take 4 (drop j (swatch_bytes c ++ rest)) = λ j at m.
    ap (λ n. field n 4 bs) m ∙ ap (take 4) (sym (drop-drop j (7 + 12 * k) bs)) ∙ ap (λ t. take 4 (drop j t)) from in
    let l = ap (λ t. signed_of (take 4 t)) from ∙ number-back c.l (omega (arith, within.l)) in
    let a = ap signed_of (later 4 (11 + 12 * k) (omega arith)) ∙ number-back c.a within.a in
    let b = ap signed_of (later 8 (15 + 12 * k) (omega arith)) ∙ number-back c.b within.b in
    ap₃ colour l a b

-- past the last byte stand blank swatches
colour-past : (bs : List ℕ) (k : ℕ) → length bs ≤ 7 + 12 * k → colour_in bs k ≡ blank
unfolding colour_in signed_of unsigned_of
colour-past bs k h =
    let nothing : (at : ℕ) → length bs ≤ at → signed_of (field at 4 bs) ≡ pos 0 = λ at m.
    ap (λ t. signed_of (take 4 t)) (drop_of_length-le bs m) in
    let l = nothing (7 + 12 * k) h in
    let a = nothing (11 + 12 * k) (omega arith) in
    let b = nothing (15 + 12 * k) (omega arith) in
    ap₃ colour l a b

none-applies : {m v l d : ℕ} → m ≡ 0 → v ≡ 0 → l ≡ 0 → d ≡ 0 → first_refusal (m ∷ v ∷ l ∷ d ∷ []) ≡ 0
unfolding first_refusal
none-applies m v l d = λ i. first_refusal (m i ∷ v i ∷ l i ∷ d i ∷ [])

pub file-length : (d : Deck) → length (file_of d) ≡ 7 + 12 * d.count
unfolding file_of header_bytes bytes_of
file-length d = omega (arith, swatches-length d.colour d.count)

module _ (d : Deck) (kept : Kept d) (ok : deck_refusal d ≡ 0) where
  count-back : count_in (file_of d) ≡ d.count
  unfolding count_in file_of header_bytes bytes_of unsigned_of
  count-back = omega (arith, kept.most)

  swatch-back : (k : ℕ) → Dec (k < d.count) → colour_in (file_of d) k ≡ d.colour k
  unfolding file_of header_bytes bytes_of
  swatch-back k (yes h) =
      let f = swatch-from d.colour d.count k h in
      let from = drop-append-add (header_bytes d.count) (swatches_bytes d.colour d.count) (12 * k) ∙ f.is in
      colour-there (file_of d) f.rest (d.colour k) k ((deck-valid d ok).colours k h) from
  swatch-back k (no h) =
      let past : d.count ≤ k = omega arith in
      colour-past (file_of d) k (omega (arith, file-length d)) ∙ sym (kept.past k past)

  read_back : read_of (file_of d) ≡ d
  read_back =
      let most : count_in (file_of d) ≤ most_swatches = omega (arith, count-back, kept.most) in
      let sized = le-leb _ _ most ∙ sym (deck-valid d ok).sized in
      λ i. record { sized = sized i; count = count-back i; colour = λ k. swatch-back k (dec_lt k d.count) i }

  mark-passes : mark_refusal (file_of d) ≡ 0
  unfolding mark_refusal same file_of header_bytes bytes_of
  mark-passes = refl

  version-passes : version_refusal (file_of d) ≡ 0
  unfolding version_refusal version_in unsigned_of file_of header_bytes bytes_of
  version-passes =
      let five : 5 ≤ length (file_of d) = omega (arith, file-length d) in
      ap (λ t. cond (t && true) 0 11) (le-leb 5 (length (file_of d)) five)

  length-passes : length_refusal (file_of d) ≡ 0
  unfolding length_refusal
  length-passes =
      let e : length (file_of d) ≡ 7 + 12 * count_in (file_of d) = omega (arith, file-length d, count-back) in
      ap (λ t. cond t 0 12) (eq-eqb _ _ e)

  -- reading what was written gives the deck
  pub file_of-deck : IsFile (file_of d) d
  unfolding file_refusal
  file_of-deck =
      record {
        accepted = none-applies mark-passes version-passes length-passes (ap deck_refusal read_back ∙ ok);
        read = read_back;
        valid = ok;
        written = refl;
      }

-- ---- bytes, read

-- a test that is not refused
pub passed : (t : Bool) (n : ℕ) → cond t 0 (suc n) ≡ 0 → t ≡ true
passed true n e = refl
passed false n e = absurd (omega arith)

-- what it says of some bytes that their form is not refused
pub record Formed (bs : List ℕ) : Type 0 where
  pub mark_is : take 3 bs ≡ mark
  pub version_is : version_in bs ≡ version
  pub length_is : length bs ≡ 7 + 12 * count_in bs

pub form-formed : (bs : List ℕ) → form_refusal bs ≡ 0 → Formed bs
unfolding form_refusal mark_refusal version_refusal length_refusal
form-formed bs ok =
    let m = none_of _ _ ok in
    let v = none_of _ _ m.1 in
    record {
      mark_is = same-is (take 3 bs) mark (passed _ 9 m.0);
      version_is = eqb-true _ _ ((and-eq-true_iff (leb 5 (length bs)) (eqb (version_in bs) version)).0 (passed _ 10 v.0)).1;
      length_is = eqb-true _ _ (passed _ 11 (sym (first-last _) ∙ v.1));
    }

pub file-is : (bs : List ℕ) → first_of (form_refusal bs) (deck_refusal (read_of bs)) ≡ file_refusal bs
unfolding file_refusal form_refusal
file-is bs = first_then (mark_refusal bs ∷ version_refusal bs ∷ length_refusal bs ∷ []) (deck_refusal (read_of bs))

pub file-parts : (bs : List ℕ) → file_refusal bs ≡ 0 → (form_refusal bs ≡ 0) × (deck_refusal (read_of bs) ≡ 0)
file-parts bs ok = first-none (form_refusal bs) (deck_refusal (read_of bs)) (file-is bs ∙ ok)

module _ (bs : List ℕ) (bytes : Bytes bs) (formed : Formed bs) where
  header-back : header_bytes (count_in bs) ≡ field 0 7 bs
  unfolding header_bytes version_in count_in
  header-back =
      let v = ap (bytes_of 2) (sym formed.version_is) ∙ bytes-of-field bs 3 2 bytes (omega (arith, formed.length_is)) in
      let n = bytes-of-field bs 5 2 bytes (omega (arith, formed.length_is)) in
      let m = sym formed.mark_is in
      (λ i. m i ++ (v i ++ n i)) ∙ ap (λ t. field 0 3 bs ++ t) (field-join bs 3 2 2) ∙ field-join bs 0 3 4

  bytes-there : (k : ℕ) → k < count_in bs → swatch_bytes (colour_in bs k) ≡ field (7 + 12 * k) 12 bs
  unfolding swatch_bytes colour_in
  bytes-there k h =
      let at : ℕ = 7 + 12 * k in
      let room : at + 12 ≤ length bs = omega (arith, formed.length_is) in
      let second : 11 + 12 * k ≡ at + 4 = omega arith in
      let third : 15 + 12 * k ≡ at + 4 + 4 = omega arith in
      let l = bytes_back bs at bytes (omega arith) in
      let a = bytes_back bs (11 + 12 * k) bytes (omega arith) ∙ ap (λ n. field n 4 bs) second in
      let b = bytes_back bs (15 + 12 * k) bytes (omega arith) ∙ ap (λ n. field n 4 bs) third in
      (λ i. l i ++ (a i ++ b i)) ∙ ap (λ t. field at 4 bs ++ t) (field-join bs (at + 4) 4 4) ∙ field-join bs at 4 8

  swatches-back : (k : ℕ) → k ≤ count_in bs → swatches_bytes (colour_in bs) k ≡ field 7 (12 * k) bs
  unfolding swatches_bytes
  swatches-back zero h = refl
  swatches-back (suc k) h =
      let e : 12 * k + 12 ≡ 12 * suc k = omega arith in
      ap₂ ◌++◌ (swatches-back k (omega arith)) (bytes-there k h) ∙ field-join bs 7 (12 * k) 12
      ∙ ap (λ n. field 7 n bs) e

  -- writing what was read gives the bytes
  file-back : file_of (read_of bs) ≡ bs
  unfolding file_of
  file-back =
      let n = count_in bs in
      ap₂ ◌++◌ header-back (swatches-back n (le_refl n)) ∙ field-join bs 0 7 (12 * n)
      ∙ take_all (7 + 12 * n) bs (omega (arith, formed.length_is))

pub deck_of-file : (bs : List ℕ) → Bytes bs → file_refusal bs ≡ 0 → IsFile bs (read_of bs)
deck_of-file bs bytes ok =
    let parts = file-parts bs ok in
    record { accepted = ok; read = refl; valid = parts.1; written = file-back bs bytes (form-formed bs parts.0) }

-- the columns of a file are its deck
module _ (bs : List ℕ) (formed : Formed bs) (most : count_in bs ≤ most_swatches) where
  abbrev column_by : (Colour → ℤ) → List ℤ
  column_by part = column_of (λ k. part (colour_in bs k)) (count_in bs)

  abbrev columns_in : Deck
  columns_in = columns (column_by (λ c. c.l)) (column_by (λ c. c.a)) (column_by (λ c. c.b))

  column-kept : (part : Colour → ℤ) → part blank ≡ pos 0 → (k : ℕ) → Dec (k < count_in bs)
      → at (column_by part) k ≡ part (colour_in bs k)
  column-kept part z k (yes h) = column-at (λ j. part (colour_in bs j)) (count_in bs) k h
  column-kept part z k (no h) =
      column-past (λ j. part (colour_in bs j)) (count_in bs) k (omega arith)
      ∙ sym (ap part (colour-past bs k (omega (arith, formed.length_is))) ∙ z)

  column-size : (part : Colour → ℤ) → length (column_by part) ≡ count_in bs
  column-size part = column-length (λ j. part (colour_in bs j)) (count_in bs)

  swatch-kept : (k : ℕ) → columns_in.colour k ≡ colour_in bs k
  unfolding columns_at
  swatch-kept k =
      let d = dec_lt k (count_in bs) in
      ap₃ colour (column-kept (λ c. c.l) refl k d) (column-kept (λ c. c.a) refl k d) (column-kept (λ c. c.b) refl k d)

  pub columns-read : columns_in ≡ read_of bs
  columns-read =
      let count = column-size (λ c. c.l) in
      let sizes : Sizes (column_by (λ c. c.l)) (column_by (λ c. c.a)) (column_by (λ c. c.b)) =
      record {
        a_is = column-size (λ c. c.a) ∙ sym count;
        b_is = column-size (λ c. c.b) ∙ sym count;
        most = omega (arith, count);
      } in
      let sized = sizes-in _ _ _ sizes ∙ sym (le-leb (count_in bs) most_swatches most) in
      λ i. record { sized = sized i; count = count i; colour = λ k. swatch-kept k i }

-- ---- from the promises alone, for callers

-- a deck that is written and read back is the same deck
pub write_read : {d : Deck} {old new : List ℕ} {r s : Transfer} {c c' : Columns} → let bs = take (transfer_size r) new in
    Writes d old new r → write_refusal d (length old) ≡ 0 → Reads bs c c' s → lent_refusal bs c ≡ 0
    → front (transfer_size s) c' ≡ d
write_read w ok x ok' = sym (x.back ok').read ∙ (w.back ok).read

-- bytes that are read and written back are the same bytes
pub read-write : {bs old new : List ℕ} {c c' : Columns} {r s : Transfer} → let d = front (transfer_size r) c' in
    Reads bs c c' r → lent_refusal bs c ≡ 0 → Writes d old new s → write_refusal d (length old) ≡ 0
    → take (transfer_size s) new ≡ bs
read-write x ok w ok' = sym (w.back ok').written ∙ (x.back ok).written
