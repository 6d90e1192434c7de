-- The five lines before the rows, from what was read of each. Assumes nothing.
use mathlib.Core.Path.{◌≡◌, refl, sym, ap, ap₂, ◌∙◌}
use mathlib.Core.Bool.{Bool, true, false, ◌&&◌, and-false, and_assoc, and_comm, and-eq-true_iff}
use mathlib.Core.List.{List}
use Prim.Native.Nat.{ℕ, ◌<◌}
use native.Mathlib.Omega.{arith}
use lib.Dec.{leb, ltb, eqb}
use lib.ListN.{length, drop}
use borrow.Author.Tests.{ltb-true, lt-ltb, eq-eqb}
use Rattle.std.specs.Borrow.{Bor}
use Rattle.buffer.specs.Numbers.{same}
use Rattle.buffer.specs.Inner.{parts_from, first_part}
use Rattle.buffer.proofs.PartsLaws.{from_start, next-from, part-from, parts-number}
use Rattle.lab_text.specs.Keywords.{begin_data_format, end_data_format, number_of_sets, begin_data, sample_id, lab_l, lab_a, lab_b}
use Rattle.lab_text.specs.Fields.{words_of, word_at, is_number, number_in, place_of, order_of, is_names, is_sets, sets_in}
use Rattle.lab_text.specs.Text.{lines_of, line_at, body_of, row_order, is_head}
use Rattle.lab_text.specs.Inner.{texts, OrderIn}
use Rattle.lab_text.specs.declared.head.Order.{Order}

-- ---- line 2

abbrev four : Order → Bool
four o = ltb o.code 4 && (ltb o.l 4 && (ltb o.a 4 && ltb o.b 4))

-- a name stands at k, or nowhere
pub name_in : {j : ℕ} (k : ℕ) → (k ≡ j) × (k < 4) → ltb j 4 ≡ true
name_in {j} k h = lt-ltb j 4 (omega arith)

pub name-out : {j : ℕ} → j ≡ 4 → ltb j 4 ≡ false
name-out e = rw e

pub names-other : (line : List ℕ) → eqb (length (words_of line)) 4 ≡ false → is_names line ≡ false
unfolding is_names
names-other line e = rw e

module _ (line : List ℕ) (ws : List (Bor (List ℕ))) (h : (length (words_of line) ≡ 4) × (texts ws ≡ words_of line)) where
  pub order-is : order_of line ≡
      record {
        code = place_of sample_id (texts ws);
        l = place_of lab_l (texts ws);
        a = place_of lab_a (texts ws);
        b = place_of lab_b (texts ws);
      }
  unfolding order_of
  order-is = rw h.1

  pub names-are : is_names line ≡
      (ltb (place_of sample_id (texts ws)) 4
      && (ltb (place_of lab_l (texts ws)) 4 && (ltb (place_of lab_a (texts ws)) 4 && ltb (place_of lab_b (texts ws)) 4)))
  unfolding is_names
  names-are = ap₂ ◌&&◌ (eq-eqb _ _ h.0) (ap four order-is)

-- each name stands at one of the four places
pub names_in : (line : List ℕ) → is_names line ≡ true → OrderIn (order_of line)
unfolding is_names
names_in line e =
    let o = order_of line in
    let f = ((and-eq-true_iff (eqb (length (words_of line)) 4) (four o)).0 e).1 in
    let code = (and-eq-true_iff (ltb o.code 4) _).0 f in
    let l = (and-eq-true_iff (ltb o.l 4) _).0 code.1 in
    let ab = (and-eq-true_iff (ltb o.a 4) _).0 l.1 in
    record {
      code = ltb-true o.code 4 code.0;
      l = ltb-true o.l 4 l.0;
      a = ltb-true o.a 4 ab.0;
      b = ltb-true o.b 4 ab.1;
    }

-- ---- line 4

module _ (line : List ℕ) (second third : ℕ) {t : List ℕ} {named : Bool}
    (e : parts_from 32 line second ≡ drop 1 (parts_from 32 line 0))
    (f : parts_from 32 line third ≡ drop 1 (parts_from 32 line second))
    (first : t ≡ first_part (parts_from 32 line 0)) (g : named ≡ same t number_of_sets) where
  abbrev two : Bool
  two = leb second (length line) && ltb (length line) third

  tests : (two && named) ≡ (eqb (length (words_of line)) 2 && same (word_at (words_of line) 0) number_of_sets)
  tests =
      let s = next-from 32 line (words_of line) 0 _ _ (from_start 32 line) e in
      ap₂ ◌&&◌ (parts-number 32 line (words_of line) 1 second third s (next-from 32 line (words_of line) 1 _ _ s f))
      (g ∙ ap (λ x. same x number_of_sets) (part-from 32 line (words_of line) 0 _ (from_start 32 line) first))

  pub sets-other : (two && named) ≡ false → is_sets line ≡ false
  unfolding is_sets
  sets-other h = sym (and_assoc (eqb (length (words_of line)) 2) (same (word_at (words_of line) 0) number_of_sets) _) ∙ ap (λ b. b && is_number 5 (word_at (words_of line) 1)) (sym tests ∙ h)

  module _ {u : List ℕ} (word : u ≡ first_part (parts_from 32 line second)) where
    second_is : u ≡ word_at (words_of line) 1
    second_is = part-from 32 line (words_of line) 1 _ (next-from 32 line (words_of line) 0 _ _ (from_start 32 line) e) word

    pub sets-are : (two && named) ≡ true → is_sets line ≡ is_number 5 u
    unfolding is_sets
    sets-are h =
        sym (and_assoc (eqb (length (words_of line)) 2) (same (word_at (words_of line) 0) number_of_sets) _) ∙ ap (λ b. b && is_number 5 (word_at (words_of line) 1)) (sym tests ∙ h)
        ∙ ap (is_number 5) (sym second_is)

    pub sets-number : number_in 5 u ≡ sets_in line
    unfolding sets_in
    sets-number = ap (number_in 5) second_is

-- ---- the five lines

-- what the five lines say: whether the keywords are right, lines 2 and 4, and where the rows start
pub record FiveLines (text : List ℕ) (keywords : Bool) (line₂ line₄ : List ℕ) (first : ℕ) : Type 0 where
  pub head : is_head text ≡ (keywords && (is_names line₂ && is_sets line₄))
  pub order : order_of line₂ ≡ row_order text
  pub sets : sets_in line₄ ≡ sets_in (line_at text 3)
  pub rows : parts_from 10 text first ≡ body_of text

-- the three keywords before the two lines that say more
regroup : (a b c d e : Bool) → (a && (b && (c && (d && e)))) ≡ (((a && c) && e) && (b && d))
regroup false b c d e = refl
regroup true false c d e = sym (and-false (c && e))
regroup true true false d e = refl
regroup true true true d e = and_comm d e

module _ (text : List ℕ) (second third fourth fifth rows : ℕ)
    (e₁ : parts_from 10 text second ≡ drop 1 (parts_from 10 text 0))
    (e₂ : parts_from 10 text third ≡ drop 1 (parts_from 10 text second))
    (e₃ : parts_from 10 text fourth ≡ drop 1 (parts_from 10 text third))
    (e₄ : parts_from 10 text fifth ≡ drop 1 (parts_from 10 text fourth))
    (e₅ : parts_from 10 text rows ≡ drop 1 (parts_from 10 text fifth)) where
  abbrev ls : List (List ℕ)
  ls = lines_of text

  p₁ : parts_from 10 text second ≡ drop 1 ls
  p₁ = next-from 10 text ls 0 _ _ (from_start 10 text) e₁

  p₂ : parts_from 10 text third ≡ drop 2 ls
  p₂ = next-from 10 text ls 1 _ _ p₁ e₂

  p₃ : parts_from 10 text fourth ≡ drop 3 ls
  p₃ = next-from 10 text ls 2 _ _ p₂ e₃

  p₄ : parts_from 10 text fifth ≡ drop 4 ls
  p₄ = next-from 10 text ls 3 _ _ p₃ e₄

  pub five-lines : {names sets : List ℕ} {format end start : Bool} → names ≡ first_part (parts_from 10 text second)
      → sets ≡ first_part (parts_from 10 text fourth) → format ≡ same (first_part (parts_from 10 text 0)) begin_data_format
      → end ≡ same (first_part (parts_from 10 text third)) end_data_format
      → start ≡ same (first_part (parts_from 10 text fifth)) begin_data
      → FiveLines text ((format && end) && start) names sets rows
  unfolding is_head
  five-lines {names} {sets} n m k₀ k₂ k₄ =
      let is : (k p : ℕ) (word : List ℕ) → parts_from 10 text p ≡ drop k ls
      → same (line_at text k) word ≡ same (first_part (parts_from 10 text p)) word
      = λ k p word e. ap (λ x. same x word) (sym (part-from 10 text ls k p e refl)) in
      let line₂ : names ≡ line_at text 1 = part-from 10 text ls 1 _ p₁ n in
      let line₄ : sets ≡ line_at text 3 = part-from 10 text ls 3 _ p₃ m in
      record {
        head =
            regroup (same (line_at text 0) begin_data_format) (is_names (line_at text 1)) (same (line_at text 2) end_data_format)
            (is_sets (line_at text 3)) (same (line_at text 4) begin_data)
            ∙ ap₂ ◌&&◌
            (ap₂ ◌&&◌
            (ap₂ ◌&&◌ (is 0 _ _ (from_start 10 text) ∙ sym k₀) (is 2 _ _ p₂ ∙ sym k₂)) (is 4 _ _ p₄ ∙ sym k₄))
            (λ i. is_names (sym line₂ i) && is_sets (sym line₄ i));
        order = ap order_of line₂;
        sets = ap sets_in line₄;
        rows = next-from 10 text ls 4 _ _ p₄ e₅;
      }

pub head-names : (text : List ℕ) → is_head text ≡ true → is_names (line_at text 1) ≡ true
unfolding is_head
head-names text e =
    ((and-eq-true_iff (is_names (line_at text 1)) _).0
    ((and-eq-true_iff (same (line_at text 0) begin_data_format) _).0 e).1).0
