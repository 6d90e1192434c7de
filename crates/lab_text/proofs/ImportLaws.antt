-- What an import answers and leaves, from what its steps did. Assumes nothing.
use mathlib.Core.Path.{◌≡◌, sym, ap, ◌∙◌}
use mathlib.Core.Bool.{Bool}
use mathlib.Core.List.{List, [], ◌∷◌, ◌++◌, map}
use Prim.Native.Nat.{ℕ, ◌≤◌}
use native.Mathlib.Omega.{arith}
use lib.Dec.{leb}
use lib.IntN.{ℤ}
use lib.ListN.{length, take, drop, length-map}
use lib.Seq.{length-take-le, take_at}
use borrow.Author.Tests.{leb-true}
use Rattle.std.specs.Prelude.{Ok, Err}
use Rattle.refusal.specs.declared.Refusal.{Refusal}
use Rattle.refusal.specs.Refusals.{number_of, first_of}
use Rattle.refusal.proofs.RefusalLaws.{first-none, first-last, first-cons, first-refused}
use Rattle.deck.specs.Deck.{columns, deck_refusal}
use Rattle.deck.proofs.DeckLaws.{both}
use Rattle.deck_file.specs.Refusals.{room_refusal}
use Rattle.deck_file.specs.Transfers.{Transfer, transfer_number, transfer_size, contents_of}
use Rattle.deck_file.proofs.Answering.{refused-answer, refused-contents, done-answer, done-contents, number_is, contents-kept}
use Rattle.lab_text.specs.Text.{text_refusal, swatches_of}
use Rattle.swatches.specs.Swatches.{codes, lightnesses, green_reds, blue_yellows}
use Rattle.lab_text.specs.Imports.{refusal_for, Columns, lent, columns_fit, import_refusal, import_answer}
use Rattle.lab_text.specs.Imports.{IsLabDeck, columns_after, front, Imports}
use Rattle.swatches.specs.declared.Swatch.{Swatch}
use Rattle.lab_text.specs.declared.LabDeck.{LabDeck}
use Rattle.lab_text.proofs.ReadLaws.{none_true}
use Rattle.lab_text.proofs.TextLaws.{text-valid, text-ordered}

-- the number of swatches that were read
pub read_count : {text : List ℕ} {d : LabDeck} → IsLabDeck text d → d.count ≡ length (swatches_of text)
read_count {d = d} is = sym (length-take-le d.count d.swatches (omega (arith, is.most, is.size))) ∙ ap length is.is

-- ---- the refusal of an import, to columns as to records

module _ (text : List ℕ) (fits : ℕ → Bool) where
  abbrev by_count : ℕ → ℕ
  by_count n = first_of (text_refusal text) (room_refusal (fits n))

  refusal_is : by_count (length (swatches_of text)) ≡ refusal_for text fits
  unfolding refusal_for
  refusal_is =
      let r = room_refusal (fits (length (swatches_of text))) in
      sym (first-cons (text_refusal text) (r ∷ []) ∙ ap (first_of (text_refusal text)) (first-last r))

  -- that of the text, where there is one
  pub by-text : (e : Refusal) → number_of e ≡ text_refusal text → number_of e ≡ refusal_for text fits
  by-text e is = sym (first-refused e _ is) ∙ refusal_is

  -- and else that of the room
  pub by_room : {d : LabDeck} {k : ℕ} → 0 ≡ text_refusal text → IsLabDeck text d → k ≡ room_refusal (fits d.count)
      → k ≡ refusal_for text fits
  by_room {d} none is e =
      e ∙ ap (λ n. first_of n (room_refusal (fits d.count))) none ∙ ap by_count (read_count is) ∙ refusal_is

  pub accepted : refusal_for text fits ≡ 0 → text_refusal text ≡ 0
  accepted z = (first-none (text_refusal text) _ (refusal_is ∙ z)).0

-- ---- columns

module _ (text : List ℕ) (code : List ℕ) (l a b : List ℤ) where
  abbrev old : Columns
  old = lent code l a b

  abbrev refusal : ℕ
  refusal = import_refusal text old

  abbrev ss : List Swatch
  ss = swatches_of text

  pub columns-by-text : (e : Refusal) → number_of e ≡ text_refusal text → number_of e ≡ refusal
  unfolding import_refusal
  columns-by-text = by-text text (columns_fit old)

  pub columns-by_room : {d : LabDeck} {k : ℕ} → 0 ≡ text_refusal text → IsLabDeck text d
      → k ≡ room_refusal (columns_fit old d.count) → k ≡ refusal
  unfolding import_refusal
  columns-by_room = by_room text (columns_fit old)

  abbrev size : ℕ
  size = transfer_size (import_answer text old)

  kept : {A : Type 0} (f : Swatch → A) (xs : List A) → drop size (contents_of refusal (map f ss) xs) ≡ drop size xs
  kept f xs = contents-kept refusal (length ss) (map f ss) xs (length-map ss f)

  imports : {r : Transfer} {new : Columns} → r ≡ import_answer text old → new ≡ columns_after refusal ss old
      → (refusal ≡ 0 → deck_refusal (front (transfer_size r) new) ≡ 0) → Imports text old new r
  unfolding columns_after
  imports answer contents valid =
      let kc = kept (λ (s : Swatch). s.code) code in
      let kl = kept (λ (s : Swatch). s.l) l in
      let ka = kept (λ (s : Swatch). s.a) a in
      let kb = kept (λ (s : Swatch). s.b) b in
      record {
        answer = answer;
        contents = contents;
        number = ap transfer_number answer ∙ number_is refusal (length ss);
        kept = rw (answer, contents) (λ i. record { code = kc i; l = kl i; a = ka i; b = kb i });
        valid = valid;
        ordered = text-ordered text;
      }

  pub imports-refused : {r : ℕ} → r ≡ refusal → (r ≡ 0 → ⊥) → Imports text old old (Err r)
  unfolding columns_after
  imports-refused e h =
      imports (refused-answer e h (length ss))
      (λ i. record {
        code = refused-contents e h (codes ss) code i;
        l = refused-contents e h (lightnesses ss) l i;
        a = refused-contents e h (green_reds ss) a i;
        b = refused-contents e h (blue_yellows ss) b i;
      })
      (λ z. absurd (h (e ∙ z)))

  -- there is room for all
  pub room : {n : ℕ} → 0 ≡ room_refusal (columns_fit old n)
      → (n ≤ length code) × ((n ≤ length l) × ((n ≤ length a) × (n ≤ length b)))
  room {n} e =
      let c = both (leb n (length code)) _ (none_true _ (λ q. absurd (omega arith)) (sym e)) in
      let m = both (leb n (length l)) _ c.1 in
      let k = both (leb n (length a)) (leb n (length b)) m.1 in
      (leb-true _ _ c.0, (leb-true _ _ m.0, (leb-true _ _ k.0, leb-true _ _ k.1)))

  module _ {d : LabDeck} (is : IsLabDeck text d) (z : refusal ≡ 0) where
    module _ {A : Type 0} (f : Swatch → A) (xs : List A) {ys : List A}
        (h : ys ≡ map f (take d.count d.swatches) ++ drop d.count xs) where
      filled : ys ≡ map f ss ++ drop d.count xs
      filled = h ∙ ap (λ ts. map f ts ++ drop d.count xs) is.is

      column-done : ys ≡ contents_of refusal (map f ss) xs
      column-done = done-contents (map f ss) xs z (length-map ss f) (filled ∙ ap (λ n. map f ss ++ drop n xs) (read_count is))

      column-front : take d.count ys ≡ map f ss
      column-front = ap (take d.count) filled ∙ take_at (map f ss) _ d.count (length-map ss f ∙ sym (read_count is))

    valid-text : text_refusal text ≡ 0
    unfolding import_refusal
    valid-text = accepted text (columns_fit old) z

    pub imports-done : {code' : List ℕ} {l' a' b' : List ℤ}
        → code' ≡ codes (take d.count d.swatches) ++ drop d.count code
        → l' ≡ lightnesses (take d.count d.swatches) ++ drop d.count l
        → a' ≡ green_reds (take d.count d.swatches) ++ drop d.count a
        → b' ≡ blue_yellows (take d.count d.swatches) ++ drop d.count b
        → Imports text old (lent code' l' a' b') (Ok d.count)
    unfolding columns_after
    imports-done ec el ea eb =
        let fl = column-front (λ (s : Swatch). s.l) l el in
        let fa = column-front (λ (s : Swatch). s.a) a ea in
        let fb = column-front (λ (s : Swatch). s.b) b eb in
        imports (done-answer z (read_count is))
        (λ i. record {
          code = column-done (λ (s : Swatch). s.code) code ec i;
          l = column-done (λ (s : Swatch). s.l) l el i;
          a = column-done (λ (s : Swatch). s.a) a ea i;
          b = column-done (λ (s : Swatch). s.b) b eb i;
        })
        (λ _. (λ i. deck_refusal (columns (fl i) (fa i) (fb i))) ∙ text-valid text valid-text)
