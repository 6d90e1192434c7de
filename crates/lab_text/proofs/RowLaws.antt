-- A row, from what was read of its words. Assumes nothing.
use mathlib.Core.Path.{◌≡◌, refl, sym, ap, ap₂, ◌∙◌}
use mathlib.Core.Bool.{Bool, true, false, ◌&&◌, cond, and-true, and-false, true≢false, and_assoc}
use mathlib.Core.Logic.{⊎_elim}
use mathlib.Core.List.{List, [], ◌∷◌, ◌++◌, map, append-nil}
use Prim.Native.Nat.{ℕ, suc, ◌+◌, ◌≤◌, ◌<◌}
use native.Mathlib.Nat.{add-zero, eq-or-lt_of_le}
use native.Mathlib.Numerals.{add-one}
use native.Mathlib.Omega.{arith}
use lib.Dec.{leb, eqb}
use lib.IntN.{ℤ}
use Rattle.std.specs.Borrow.{Bor}
use lib.ListN.{length, get_or, take, drop, set, drop_of_length-le}
use lib.Seq.{take-suc-set, append_snoc, drop-cons}
use borrow.Author.Tests.{eq-eqb, eqb-true, eqb-false, leb-true, leb-false}
use Rattle.buffer.specs.Numbers.{same}
use Rattle.buffer.specs.Parts.{start_with, parts_of}
use Rattle.buffer.specs.Inner.{parts_from}
use Rattle.buffer.proofs.PartsLaws.{from_in, from_out, never-none}
use Rattle.deck.specs.Deck.{most_swatches}
use Rattle.swatches.specs.Swatches.{all, is_within}
use Rattle.lab_text.specs.Keywords.{end_data}
use Rattle.lab_text.specs.Fields.{words_of, word_at, number_in, is_code, is_value, value_in, is_row, row_in}
use Rattle.lab_text.specs.Text.{is_end, ends, row_lines}
use Rattle.lab_text.specs.Inner.{texts, TableRead}
use Rattle.lab_text.proofs.FieldLaws.{word-at}
use Rattle.swatches.specs.declared.Swatch.{Swatch}
use Rattle.lab_text.specs.declared.head.Order.{Order}

pub row-other : (o : Order) (line : List ℕ) → eqb (length (words_of line)) 4 ≡ false → is_row o line ≡ false
unfolding is_row
row-other o line e = rw e

module _ (o : Order) (line : List ℕ) (ws : List (Bor (List ℕ)))
    (h : (length (words_of line) ≡ 4) × (texts ws ≡ words_of line)) where
  abbrev word : ℕ → List ℕ
  word k = (get_or ws k (record { ref_ptr = (0, 0); now = [] })).now

  at-words : (k : ℕ) → word_at (words_of line) k ≡ word k
  at-words k = sym (word-at ws h.1 k)

  pub row-is : is_row o line ≡
      (is_code (word o.code) && (is_value (word o.l) && (is_value (word o.a) && is_value (word o.b))))
  unfolding is_row
  row-is =
      ap₂ ◌&&◌ (eq-eqb _ _ h.0)
      (ap₂ ◌&&◌ (ap is_code (at-words o.code))
      (ap₂ ◌&&◌ (ap is_value (at-words o.l)) (ap₂ ◌&&◌ (ap is_value (at-words o.a)) (ap is_value (at-words o.b)))))

  pub row_read : {code : ℕ} {l a b : ℤ} → code ≡ number_in 10 (word o.code) → l ≡ value_in (word o.l) → a ≡ value_in (word o.a)
      → b ≡ value_in (word o.b)
      → record { code = code; l = l; a = a; b = b } ≡ row_in o line
  unfolding row_in
  row_read e f g i =
      λ j. record {
        code = (e ∙ ap (number_in 10) (sym (at-words o.code))) j;
        l = (f ∙ ap value_in (sym (at-words o.l))) j;
        a = (g ∙ ap value_in (sym (at-words o.a))) j;
        b = (i ∙ ap value_in (sym (at-words o.b))) j;
      }

-- ---- the end of the text

more_parts : (p : List ℕ) (ps : List (List ℕ)) → 0 < length ps → is_end (p ∷ ps) ≡ false
more_parts p [] h = absurd (omega arith)
more_parts p (q ∷ ps) h = refl

start-parts : (x : ℕ) (ps : List (List ℕ)) → is_end (start_with x ps) ≡ false
unfolding start_with
start-parts x [] = refl
start-parts x (p ∷ []) = refl
start-parts x (p ∷ (q ∷ ps)) = refl

some-parts : (t : Bool) (x : ℕ) (xs : List ℕ) → is_end (cond t ([] ∷ parts_of 10 xs) (start_with x (parts_of 10 xs))) ≡ false
some-parts true x xs = more_parts [] (parts_of 10 xs) (never-none 10 [] xs)
some-parts false x xs = start-parts x (parts_of 10 xs)

-- nothing but the newline of END_DATA is left from p on
module _ (s : List ℕ) (p : ℕ) where
  end_by : (t u : Bool) → leb p (length s) ≡ t → eqb p (length s) ≡ u → is_end (parts_from 10 s p) ≡ u
  unfolding parts_of
  end_by true true h e =
      let none = drop_of_length-le s {i = p} (omega (arith, eqb-true p (length s) e)) in
      ap is_end (from_in 10 s p (leb-true p (length s) h) ∙ ap (parts_of 10) none)
  end_by true false h e =
      let l = leb-true p (length s) h in
      let less : p < length s = ⊎_elim (λ q. absurd (eqb-false p (length s) e q)) (λ q. q) (eq-or-lt_of_le l) in
      ap is_end (from_in 10 s p l ∙ ap (parts_of 10) (drop-cons s p 0 less))
      ∙ some-parts (eqb (get_or s p 0) 10) (get_or s p 0) (drop (suc p) s)
  end_by false true h e = absurd (omega (arith, leb-false p (length s) h, eqb-true p (length s) e))
  end_by false false h e = ap is_end (from_out 10 s p (leb-false p (length s) h))

  pub end-from : is_end (parts_from 10 s p) ≡ eqb p (length s)
  end-from = end_by (leb p (length s)) (eqb p (length s)) refl refl

-- ---- the rows so far

-- what is known of the lines `body`, where `rest` of them are still to be read: r and w say of the n rows so far that each is a
-- row and that each swatch is within the limits
pub record SoFar (o : Order) (body rest : List (List ℕ)) (swatches : List Swatch) (r w : Bool) (n : ℕ) : Type 0 where
  pub ended : ends rest ≡ ends body
  pub right : (r && all (is_row o) (row_lines rest)) ≡ all (is_row o) (row_lines body)
  pub count : n + length (row_lines rest) ≡ length (row_lines body)
  pub within : r ≡ true → (w && all is_within (map (row_in o) (row_lines rest))) ≡ all is_within (map (row_in o) (row_lines body))
  pub is : r ≡ true → n ≤ most_swatches
      → take n swatches ++ map (row_in o) (row_lines rest) ≡ map (row_in o) (row_lines body)

module _ (o : Order) (body : List (List ℕ)) where
  module _ {rest : List (List ℕ)} {swatches : List Swatch} {r w : Bool} {n : ℕ} (h : SoFar o body rest swatches r w n) where
    -- no row is left
    pub so-far-all : {t : Bool} → length swatches ≡ most_swatches → row_lines rest ≡ [] → t ≡ ends rest
        → TableRead o body (record { ended = t; right = r; within = w; count = n; swatches = swatches })
    unfolding all
    so-far-all size none e =
        record {
          size = size;
          ended = e ∙ h.ended;
          right = sym (ap (λ ls. r && all (is_row o) ls) none ∙ and-true r) ∙ h.right;
          count = sym (ap (λ ls. n + length ls) none ∙ add-zero n) ∙ h.count;
          within = λ t. sym (ap (λ ls. w && all is_within (map (row_in o) ls)) none ∙ and-true w) ∙ h.within t;
          is = λ t l. sym (ap (λ ls. take n swatches ++ map (row_in o) ls) none ∙ append-nil _) ∙ h.is t l;
        }

    module _ {line : List ℕ} {more : List (List ℕ)} (e : rest ≡ line ∷ more) {t : Bool} (f : t ≡ same line end_data) where
      pub rows_end : t ≡ true → row_lines rest ≡ []
      unfolding row_lines
      rows_end g = ap row_lines e ∙ ap (λ b. cond b [] (line ∷ row_lines more)) (sym f ∙ g)

      pub ends-here : t ≡ true → is_end more ≡ ends rest
      unfolding ends
      ends-here g = sym (ap ends e ∙ ap (λ b. cond b (is_end more) (ends more)) (sym f ∙ g))

      module _ (g : t ≡ false) where
        row_first : row_lines rest ≡ line ∷ row_lines more
        unfolding row_lines
        row_first = ap row_lines e ∙ ap (λ b. cond b [] (line ∷ row_lines more)) (sym f ∙ g)

        ends_on : ends more ≡ ends rest
        unfolding ends
        ends_on = sym (ap ends e ∙ ap (λ b. cond b (is_end more) (ends more)) (sym f ∙ g))

        pub so_far_more : {swatch : Swatch} {v : Bool} {swatches' : List Swatch} → (is_row o line ≡ true) × (swatch ≡ row_in o line)
            → v ≡ is_within swatch → length swatches ≡ most_swatches → (n < most_swatches → swatches' ≡ set swatches n swatch)
            → SoFar o body more swatches' r (w && v) (n + 1)
        unfolding all
        so_far_more {swatch} {v} {swatches'} read inside size stored =
            let A = all (is_row o) (row_lines more) in
            let M = map (row_in o) (row_lines more) in
            record {
              ended = ends_on ∙ h.ended;
              right =
                  ap (λ b. r && (b && A)) (sym read.0) ∙ ap (λ ls. r && all (is_row o) ls) (sym row_first) ∙ h.right;
              count = omega (arith, ap length row_first, h.count);
              within =
                  λ q. and_assoc w v (all is_within M)
                  ∙ ap (λ b. w && (b && all is_within M)) (inside ∙ ap is_within read.1)
                  ∙ ap (λ ls. w && all is_within (map (row_in o) ls)) (sym row_first) ∙ h.within q;
              is =
                  λ q l. let few : n < most_swatches = omega arith in
                  let taken : take (n + 1) swatches' ≡ take n swatches ++ (swatch ∷ []) =
                  ap₂ take (add-one n) (stored few) ∙ take-suc-set swatches n swatch (omega arith) in
                  ap (λ xs. xs ++ M) taken ∙ append_snoc (take n swatches) swatch M
                  ∙ ap (λ x. take n swatches ++ x ∷ M) read.1
                  ∙ ap (λ ls. take n swatches ++ map (row_in o) ls) (sym row_first) ∙ h.is q (omega arith);
            }

        -- and a line that is no row
        pub so_far_malformed : is_row o line ≡ false → SoFar o body more swatches false w (n + 1)
        unfolding all
        so_far_malformed e =
            let A = all (is_row o) (row_lines more) in
            record {
              ended = ends_on ∙ h.ended;
              right =
                  sym (sym h.right ∙ ap (λ ls. r && all (is_row o) ls) row_first ∙ ap (λ b. r && (b && A)) e ∙ and-false r);
              count = omega (arith, ap length row_first, h.count);
              within = λ q. absurd (true≢false (sym q));
              is = λ q. absurd (true≢false (sym q));
            }
