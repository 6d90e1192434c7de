-- What a write and a read answer and leave, from what their steps did. Assumes nothing.
use mathlib.Core.Path.{◌≡◌, refl, sym, ap, subst, ◌∙◌}
use mathlib.Core.List.{List, ◌++◌}
use Prim.Native.Nat.{ℕ, zero, suc, ◌≤◌}
use native.Mathlib.Omega.{arith}
use borrow.Author.Tests.{leb-true}
use lib.IntN.{ℤ}
use lib.ListN.{length, take, drop}
use lib.Seq.{take_at, drop_at}
use Rattle.places.specs.Places.{column_of}
use Rattle.places.proofs.Columns.{column-length}
use Rattle.buffer.specs.Writing.{Written}
use Rattle.buffer.proofs.WritingLaws.{written-append, written-front}
use Rattle.buffer.proofs.NumberLaws.{Bytes}
use Rattle.deck.specs.Deck.{Deck, most_swatches, columns}
use Rattle.deck.proofs.DeckLaws.{deck-valid}
use Rattle.deck_file.specs.Layout.{header_bytes, swatches_bytes, file_of, count_in, colour_in, read_of}
use Rattle.deck_file.specs.Refusals.{write_refusal}
use Rattle.deck_file.specs.Transfers.{Transfer, transfer_of, transfer_number, transfer_size, write_answer, read_answer, contents_of}
use Rattle.deck_file.specs.Transfers.{columns_after, Columns, lent, lent_refusal, front, IsFile, Writes, Reads}
use Rattle.std.specs.Prelude.{Ok, Err}
use Rattle.refusal.specs.Refusals.{given}
use Rattle.deck_file.specs.Inner.{column_in}
use Rattle.deck_file.proofs.Swatches.{ap₃}
use Rattle.deck_file.proofs.RoundTrip.{Kept, file_of-deck, deck_of-file, form-formed, file-parts, columns-read}
use Rattle.deck_file.proofs.Refusing.{write-accepts, read-accepts}

-- ---- a refusal r, which is k: these laws hold of every answer that is a `Transfer`

by-refusal : (P : ℕ → Type 0) (k : ℕ) → (k ≡ 0 → ⊥) → ((j : ℕ) → P (suc j)) → P k
by-refusal P zero h f = absurd (h refl)
by-refusal P (suc k) h f = f k

module _ {r k : ℕ} (e : r ≡ k) (h : r ≡ 0 → ⊥) where
  pub refused-answer : (n : ℕ) → Path Transfer (Err r) (transfer_of k n)
  unfolding given
  refused-answer n =
      let is : Path Transfer (Err r) (Err k) = λ i. Err (e i) in
      is ∙ by-refusal (λ j. Path Transfer (Err j) (transfer_of j n)) k (λ z. h (e ∙ z)) (λ j. refl)

  pub refused-contents : {A : Type 0} (new old : List A) → old ≡ contents_of k new old
  unfolding contents_of
  refused-contents new old = by-refusal (λ j. old ≡ contents_of j new old) k (λ z. h (e ∙ z)) (λ j. refl)

-- ---- no refusal

pub done-answer : {k m n : ℕ} → k ≡ 0 → m ≡ n → Path Transfer (Ok m) (transfer_of k n)
unfolding given
done-answer {m = m} {n = n} z e =
    let is : Path Transfer (Ok m) (Ok n) = λ i. Ok (e i) in is ∙ ap (λ j. transfer_of j n) (sym z)

pub done-contents : {A : Type 0} (new old : List A) {k n : ℕ} {last : List A} → k ≡ 0 → length new ≡ n
    → last ≡ new ++ drop n old → last ≡ contents_of k new old
unfolding contents_of
done-contents new old z e h =
    h ∙ ap (λ j. new ++ drop j old) (sym e) ∙ ap (λ j. contents_of j new old) (sym z)

-- ---- what each answer and its contents say

pub number_is : (k n : ℕ) → transfer_number (transfer_of k n) ≡ k
unfolding given
number_is zero n = refl
number_is (suc k) n = refl

pub contents-kept : {A : Type 0} (k n : ℕ) (new old : List A) → length new ≡ n
    → drop (transfer_size (transfer_of k n)) (contents_of k new old) ≡ drop (transfer_size (transfer_of k n)) old
unfolding given contents_of
contents-kept zero n new old e = drop_at new (drop (length new) old) n e ∙ ap (λ m. drop m old) e
contents-kept (suc k) n new old e = refl

-- ---- a write

module _ (d : Deck) (old : List ℕ) where
  writes : {r : Transfer} {new : List ℕ} → r ≡ write_answer d (length old)
      → new ≡ contents_of (write_refusal d (length old)) (file_of d) old
      → (write_refusal d (length old) ≡ 0 → IsFile (take (transfer_size r) new) d) → Writes d old new r
  writes answer contents back =
      record {
        answer = answer;
        contents = contents;
        number = ap transfer_number answer ∙ number_is _ (length (file_of d));
        kept = rw (answer, contents) (contents-kept _ (length (file_of d)) (file_of d) old refl);
        back = back;
      }

  pub writes-refused : {r : ℕ} → r ≡ write_refusal d (length old) → (r ≡ 0 → ⊥) → Writes d old old (Err r)
  writes-refused e h =
      writes (refused-answer e h (length (file_of d))) (refused-contents e h (file_of d) old) (λ z. absurd (h (e ∙ z)))

  -- the header, then the swatches
  pub writes-done : {m n at r : ℕ} {mid new : List ℕ} → Kept d → write_refusal d (length old) ≡ 0
      → Written old 0 (header_bytes d.count) m mid at
      → Written mid at (swatches_bytes d.colour d.count) n new r → Writes d old new (Ok r)
  unfolding file_of
  writes-done {r = r} {new = new} kept z header swatches =
      let ok = write-accepts d (length old) z in
      let w : Written old 0 (file_of d) _ new r = written-append header swatches in
      let e : r ≡ length (file_of d) = omega (arith, w.next) in
      let is = written-front w ok.1 in
      let written : take r new ≡ file_of d = ap (take r) is ∙ take_at (file_of d) _ r (sym e) in
      writes (done-answer z e) (done-contents (file_of d) old z refl is)
      (λ _. subst (λ t. IsFile t d) (sym written) (file_of-deck d kept ok.0))

-- ---- a read

module _ (bs : List ℕ) (l a b : List ℤ) where
  abbrev old : Columns
  old = lent l a b

  abbrev refusal : ℕ
  refusal = lent_refusal bs old

  reads : {r : Transfer} {new : Columns} → r ≡ read_answer bs old → new ≡ columns_after refusal (read_of bs) old
      → (refusal ≡ 0 → IsFile bs (front (transfer_size r) new)) → Reads bs old new r
  unfolding columns_after
  reads answer contents back =
      let kept : (g : ℕ → ℤ) (xs : List ℤ)
      → let size = transfer_size (read_answer bs old) in
      drop size (contents_of refusal (column_of g (count_in bs)) xs) ≡ drop size xs
      = λ g xs. contents-kept refusal (count_in bs) (column_of g (count_in bs)) xs (column-length g (count_in bs)) in
      record {
        answer = answer;
        contents = contents;
        number = ap transfer_number answer ∙ number_is refusal (count_in bs);
        kept = rw (answer, contents) (ap₃ lent (kept _ l) (kept _ a) (kept _ b));
        back = back;
      }

  pub reads-refused : {r : ℕ} → r ≡ refusal → (r ≡ 0 → ⊥) → Reads bs old old (Err r)
  unfolding columns_after
  reads-refused e h =
      reads (refused-answer e h (count_in bs))
      (ap₃ lent (refused-contents e h _ l) (refused-contents e h _ a) (refused-contents e h _ b))
      (λ z. absurd (h (e ∙ z)))

  module _ {n : ℕ} (z : refusal ≡ 0) (e : n ≡ count_in bs) (g : ℕ → ℤ) (xs : List ℤ) {ys : List ℤ}
      (h : ys ≡ column_of g n ++ drop n xs) where
    column-done : ys ≡ contents_of refusal (column_of g (count_in bs)) xs
    column-done =
        done-contents (column_of g (count_in bs)) xs z (column-length g (count_in bs))
        (h ∙ ap (λ m. column_of g m ++ drop m xs) e)

    column-front : take n ys ≡ column_of g (count_in bs)
    column-front = ap (take n) h ∙ take_at (column_of g n) (drop n xs) n (column-length g n) ∙ ap (column_of g) e

  pub reads-done : {n : ℕ} {l' a' b' : List ℤ} → Bytes bs → refusal ≡ 0 → n ≡ count_in bs
      → l' ≡ column_of (column_in bs 7) n ++ drop n l → a' ≡ column_of (column_in bs 11) n ++ drop n a
      → b' ≡ column_of (column_in bs 15) n ++ drop n b → Reads bs old (lent l' a' b') (Ok n)
  unfolding columns_after colour_in
  reads-done bytes z e el ea eb =
      let ok = read-accepts bs (length l) (length a) (length b) z in
      let parts = file-parts bs ok.file in
      let most : count_in bs ≤ most_swatches = leb-true _ _ (deck-valid (read_of bs) parts.1).sized in
      let fl = column-front z e (column_in bs 7) l el in
      let fa = column-front z e (column_in bs 11) a ea in
      let fb = column-front z e (column_in bs 15) b eb in
      let deck = ap₃ columns fl fa fb ∙ columns-read bs (form-formed bs parts.0) most in
      reads (done-answer z e)
      (ap₃ lent
      (column-done z e (column_in bs 7) l el)
      (column-done z e (column_in bs 11) a ea)
      (column-done z e (column_in bs 15) b eb))
      (λ _. subst (IsFile bs) (sym deck) (deck_of-file bs bytes ok.file))
