-- Words, and words that are numbers, from what was read of them. Assumes nothing.
use mathlib.Core.Path.{◌≡◌, refl, sym, ap, subst, ◌∙◌}
use mathlib.Core.Bool.{Bool, true, false, ◌&&◌, cond}
use mathlib.Core.List.{List, [], ◌∷◌}
use Prim.Native.Nat.{ℕ, suc, ◌+◌, ◌≤◌, ◌<◌}
use native.Mathlib.Nat.{add-zero, lt_trans}
use native.Mathlib.Numerals.{add-one}
use native.Mathlib.Decide.{dec_lt}
use native.Mathlib.Omega.{arith}
use lib.Dec.{eqb, leb, ltb}
use lib.ListN.{length, get_or, get_or-map, drop, drop_of_length-le}
use lib.Seq.{drop-cons}
use borrow.Author.Tests.{le-leb, lt-leb, lt-ltb, ne_eqb}
use lib.Dec.{lit<}
use lib.IntN.{ℤ}
use mir.Syntax.{w32}
use mir.Val.{SFits, of_z, to_z}
use mir.Facts.{to_z-of_z}
use Rattle.signed.specs.Inner.{int}
use Rattle.signed.specs.declared.Int.{Int}
use Rattle.signed.proofs.Border.{int-fits}
use Rattle.std.specs.Prelude.{Option, None, Result, Ok, Err}
use Rattle.std.specs.Result.{OkIff, result_ok}
use Rattle.std.specs.Borrow.{Bor}
use Rattle.buffer.specs.Numbers.{same}
use Rattle.buffer.specs.Inner.{parts_from, first_part}
use Rattle.buffer.proofs.PartsLaws.{from_start, next-from, part-from, parts-number}
use Rattle.decimal.specs.Reading.{Run, run_of}
use Rattle.decimal.specs.Inner.{run_in}
use Rattle.decimal.specs.declared.Digits.{Digits}
use Rattle.lab_text.specs.Fields.{words_of, word_at, is_empty, is_number, number_in, is_code, place_of}
use Rattle.lab_text.specs.Inner.{texts, IsRead}

-- nothing is read where a test was not passed
pub none_read : {A : Type 0} {p : Bool} (x : A) {r : Option A} → r ≡ None → p ≡ false → IsRead p x r
none_read {p = p} x e h = subst (IsRead p x) (sym e) h

-- one test more was passed, or was not
pub passed : {p q r : Bool} → p ≡ true → q ≡ r → (p && q) ≡ r
passed e f = rw (e, f)

pub failed : {p : Bool} (q : Bool) → p ≡ false → (p && q) ≡ false
failed q e = rw e

pub empty-length : (s : List ℕ) → is_empty s ≡ eqb (length s) 0
empty-length [] = refl
empty-length (x ∷ xs) = sym (ne_eqb (suc (length xs)) 0 (λ e. omega arith))

-- ---- a word that is a number

pub number-none : (most : ℕ) (s : List ℕ) → (run_of most s).count ≡ 0 → is_number most s ≡ false
unfolding is_number
number-none most s e = rw e

pub number-is : (most : ℕ) (s : List ℕ) (d : Digits) → run_in d ≡ run_of most s → 0 < d.count
    → is_number most s ≡ is_empty d.rest.now
unfolding is_number
number-is most s d e h = ap (λ (x : Run). ltb 0 x.count && is_empty x.rest) (sym e) ∙ rw (lt-ltb _ _ h)

-- a SAMPLE_ID is a number that is small enough
module _ (s : List ℕ) where
  pub code-none : is_number 10 s ≡ false → is_code s ≡ false
  unfolding is_code
  code-none e = rw e

  module _ (e : is_number 10 s ≡ true) where
    pub code-small : number_in 10 s < 4294967296 → is_code s ≡ true
    unfolding is_code
    code-small h = rw (e, le-leb (number_in 10 s) 4294967295 (omega arith))

    pub code-big : 4294967296 ≤ number_in 10 s → is_code s ≡ false
    unfolding is_code
    code-big h = rw (e, lt-leb (number_in 10 s) 4294967295 (omega arith))

    pub code_read : {E : Type 0} {n : ℕ} (r : Result ℕ E) {q : Option ℕ} → OkIff r (n < 4294967296) n → q ≡ result_ok r
        → n ≡ number_in 10 s → IsRead (is_code s) (number_in 10 s) q
    code_read (Ok m) h f g =
        let small : number_in 10 s < 4294967296 = subst (λ k. k < 4294967296) g h.0 in
        subst (IsRead (is_code s) (number_in 10 s)) (sym f) (code-small small, h.1 ∙ g)
    code_read {n = n} (Err x) h f g = none_read _ f (code-big (by_size (dec_lt n 4294967296)))
      where
        by_size : Dec (n < 4294967296) → 4294967296 ≤ number_in 10 s
        by_size (yes l) = absurd (h l)
        by_size (no l) = omega arith

-- a decimal fits, and is what is read back of it
pub value-fits : (v : Int) → v.n < 10000000 → SFits w32 (int v)
value-fits v h = int-fits w32 v (lt_trans h (lit< tt))

pub value_stored : {x z : ℤ} → SFits w32 x → z ≡ x → to_z w32 (of_z w32 z) ≡ x
value_stored fits e = ap (λ y. to_z w32 (of_z w32 y)) e ∙ to_z-of_z fits

-- ---- the words of a line

-- the word at a place of a list of words
pub word-at : (ws : List (Bor (List ℕ))) {vs : List (List ℕ)} → texts ws ≡ vs → (k : ℕ)
    → (get_or ws k (record { ref_ptr = (0, 0); now = [] })).now ≡ word_at vs k
word-at ws e k =
    sym (get_or-map (λ (w : Bor (List ℕ)). w.now) ws k (record { ref_ptr = (0, 0); now = [] })) ∙ ap (λ vs. word_at vs k) e

-- four words
four_words : (ws : List (List ℕ)) → length ws ≡ 4 → {a b c d : List ℕ} → a ≡ word_at ws 0 → b ≡ word_at ws 1 → c ≡ word_at ws 2
    → d ≡ word_at ws 3 → (a ∷ b ∷ c ∷ d ∷ []) ≡ ws
four_words (a ∷ (b ∷ (c ∷ (d ∷ [])))) h e f g i = rw (e, f, g, i)
four_words [] h e f g i = absurd (omega arith)
four_words (a ∷ []) h e f g i = absurd (omega arith)
four_words (a ∷ (b ∷ [])) h e f g i = absurd (omega arith)
four_words (a ∷ (b ∷ (c ∷ []))) h e f g i = absurd (omega arith)
four_words (a ∷ (b ∷ (c ∷ (d ∷ (x ∷ xs))))) h e f g i = absurd (omega arith)

module _ (line : List ℕ) (second third fourth fifth : ℕ)
    (e : parts_from 32 line second ≡ drop 1 (parts_from 32 line 0))
    (f : parts_from 32 line third ≡ drop 1 (parts_from 32 line second))
    (g : parts_from 32 line fourth ≡ drop 1 (parts_from 32 line third))
    (h : parts_from 32 line fifth ≡ drop 1 (parts_from 32 line fourth)) where
  at₁ : parts_from 32 line second ≡ drop 1 (words_of line)
  at₁ = next-from 32 line (words_of line) 0 _ _ (from_start 32 line) e

  at₂ : parts_from 32 line third ≡ drop 2 (words_of line)
  at₂ = next-from 32 line (words_of line) 1 _ _ at₁ f

  at₃ : parts_from 32 line fourth ≡ drop 3 (words_of line)
  at₃ = next-from 32 line (words_of line) 2 _ _ at₂ g

  pub four-is : (leb fourth (length line) && ltb (length line) fifth) ≡ eqb (length (words_of line)) 4
  four-is = parts-number 32 line (words_of line) 3 fourth fifth at₃ (next-from 32 line (words_of line) 3 _ _ at₃ h)

  pub four_are : length (words_of line) ≡ 4 → {a b c d : List ℕ} → a ≡ first_part (parts_from 32 line 0)
      → b ≡ first_part (parts_from 32 line second) → c ≡ first_part (parts_from 32 line third)
      → d ≡ first_part (parts_from 32 line fourth) → (a ∷ b ∷ c ∷ d ∷ []) ≡ words_of line
  four_are n i j k l =
      four_words (words_of line) n (part-from 32 line (words_of line) 0 0 (from_start 32 line) i)
      (part-from 32 line (words_of line) 1 _ at₁ j) (part-from 32 line (words_of line) 2 _ at₂ k)
      (part-from 32 line (words_of line) 3 _ at₃ l)

-- ---- where a word stands

module _ (word : List ℕ) (ws : List (List ℕ)) (k : ℕ) (h : k < length ws) where
  ahead : place_of word (drop k ws) ≡ cond (same (word_at ws k) word) 0 (suc (place_of word (drop (k + 1) ws)))
  unfolding place_of
  ahead = ap (place_of word) (drop-cons ws k [] h) ∙ ap (λ n. cond (same (word_at ws k) word) 0 (suc (place_of word (drop n ws)))) (sym (add-one k))

  module _ {v : List ℕ} {t : Bool} (e : v ≡ word_at ws k) (f : t ≡ same v word) where
    next : place_of word (drop k ws) ≡ cond t 0 (suc (place_of word (drop (k + 1) ws)))
    next = ahead ∙ ap (λ b. cond b 0 (suc (place_of word (drop (k + 1) ws)))) (sym (f ∙ ap (λ x. same x word) e))

    pub place_here : t ≡ true → k + place_of word (drop k ws) ≡ k
    place_here g = omega (arith, next ∙ ap (λ b. cond b 0 (suc (place_of word (drop (k + 1) ws)))) g)

    pub place-on : t ≡ false → k + 1 + place_of word (drop (k + 1) ws) ≡ k + place_of word (drop k ws)
    place-on g = omega (arith, next ∙ ap (λ b. cond b 0 (suc (place_of word (drop (k + 1) ws)))) g)

pub place_none : (word : List ℕ) (ws : List (List ℕ)) (k : ℕ) → length ws ≤ k → k + place_of word (drop k ws) ≡ k
unfolding place_of
place_none word ws k h = ap (λ xs. k + place_of word xs) (drop_of_length-le ws h) ∙ add-zero k
