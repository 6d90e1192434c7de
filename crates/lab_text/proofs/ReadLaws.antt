-- The refusals of a text, from what was read of it, and its deck. Assumes nothing.
use mathlib.Core.Path.{◌≡◌, refl, sym, ap, subst, ◌∙◌}
use mathlib.Core.Bool.{Bool, true, false, ◌&&◌, cond}
use mathlib.Core.List.{List}
use Prim.Native.Nat.{ℕ, ◌≤◌}
use native.Mathlib.Omega.{arith}
use lib.Dec.{leb}
use lib.ListN.{length, take, length-map}
use borrow.Author.Tests.{leb-true}
use Rattle.refusal.specs.Refusals.{first_refusal}
use Rattle.refusal.proofs.RefusalLaws.{none_of}
use Rattle.deck.specs.Deck.{most_swatches}
use Rattle.buffer.specs.Inner.{parts_from}
use Rattle.swatches.specs.Swatches.{all, is_within, by_lightness}
use Rattle.lab_text.specs.Fields.{sets_in, is_row, row_in}
use Rattle.lab_text.specs.Text.{line_at, body_of, row_lines, ends, is_head, row_order, rows_of, swatches_of}
use Rattle.lab_text.specs.Text.{form_refusal, row_refusal, sets_refusal, size_refusal, limits_refusal, text_refusal}
use Rattle.lab_text.specs.Inner.{OrderIn, IsHead, TableRead, table_refusal}
use Rattle.lab_text.specs.Imports.{IsLabDeck}
use Rattle.lab_text.proofs.HeadLaws.{names_in, head-names}
use Rattle.swatches.specs.declared.Swatch.{Swatch}
use Rattle.lab_text.specs.declared.head.Head.{Head}
use Rattle.lab_text.specs.declared.head.Order.{Order}
use Rattle.lab_text.specs.declared.rows.Table.{Table}

-- a test whose refusal n does not apply was passed
pub none_true : (t : Bool) {n : ℕ} → (n ≡ 0 → ⊥) → cond t 0 n ≡ 0 → t ≡ true
none_true true h e = refl
none_true false h e = absurd (h e)

-- ---- what the tests of a table found

module _ (ended right : Bool) (count sets : ℕ) (within : Bool) where
  pub table-accept : table_refusal ended right count sets within ≡ 0 → (right ≡ true) × (count ≤ most_swatches)
  unfolding table_refusal
  table-accept e =
      let row = none_of _ _ (none_of _ _ e).1 in
      let size = none_of _ _ (none_of _ _ row.1).1 in (
        none_true right (λ z. absurd (omega arith)) row.0,
        leb-true count most_swatches (none_true (leb count most_swatches) (λ z. absurd (omega arith)) size.0),
      )

-- where a line is no row, limits play no part
malformed : (ended : Bool) (count sets : ℕ) (w v : Bool) → table_refusal ended false count sets w ≡ table_refusal ended false count sets v
unfolding table_refusal first_refusal
malformed ended count sets w v = refl

-- ---- the text

module _ (text : List ℕ) where
  abbrev o : Order
  o = row_order text

  abbrev body : List (List ℕ)
  body = body_of text

  -- the refusal, of whether all is right outside the rows
  abbrev by_text : Bool → ℕ
  by_text right =
      table_refusal right (all (is_row o) (row_lines body)) (length (rows_of text)) (sets_in (line_at text 3)) (all is_within (rows_of text))

  text-by : (b : Bool) → (is_head text && ends body) ≡ b → by_text b ≡ text_refusal text
  unfolding text_refusal form_refusal row_refusal sets_refusal size_refusal limits_refusal table_refusal
  text-by b e = sym (ap by_text e)

  pub head-refused : is_head text ≡ false → 14 ≡ text_refusal text
  unfolding table_refusal first_refusal
  head-refused e = sym (ap by_text (ap (λ b. b && ends body) e)) ∙ text-by _ refl

  module _ (right : is_head text ≡ true) where
    module _ {h : Head} (head : IsHead text h) where
      pub order-in : OrderIn h.order
      order-in = subst OrderIn (sym head.order) (names_in _ (head-names text right))

      module _ {t : Table} (table' : TableRead h.order (parts_from 10 text h.rows) t) where
        table : TableRead o body t
        table =
            subst (λ b. TableRead o b t) head.rows
            (subst (λ x. TableRead x (parts_from 10 text h.rows) t) head.order table')

        count_is : t.count ≡ length (rows_of text)
        unfolding rows_of
        count_is = table.count ∙ sym (length-map (row_lines body) (row_in o))

        ended_is : t.ended ≡ (is_head text && ends body)
        ended_is = table.ended ∙ ap (λ b. b && ends body) (sym right)

        -- the tests of the table are those of the text
        refusal-by : (b : Bool) → t.right ≡ b
            → table_refusal t.ended t.right t.count h.sets t.within ≡ by_text (is_head text && ends body)
        unfolding rows_of
        refusal-by true e =
            λ i. table_refusal (ended_is i) (table.right i) (count_is i) (head.sets i) (table.within e i)
        refusal-by false e =
            let f : all (is_row o) (row_lines body) ≡ false = sym table.right ∙ e in
            (λ i. table_refusal (ended_is i) (e i) (count_is i) (head.sets i) t.within)
            ∙ malformed (is_head text && ends body) (length (rows_of text)) (sets_in (line_at text 3)) t.within (all is_within (rows_of text))
            ∙ sym (ap (λ b. table_refusal (is_head text && ends body) b (length (rows_of text)) (sets_in (line_at text 3)) (all is_within (rows_of text))) f)

        pub table-refusal : table_refusal t.ended t.right t.count h.sets t.within ≡ text_refusal text
        table-refusal = refusal-by t.right refl ∙ text-by (is_head text && ends body) refl

        -- a table that is not refused
        module _ (none : 0 ≡ table_refusal t.ended t.right t.count h.sets t.within) where
          accepted : (t.right ≡ true) × (t.count ≤ most_swatches)
          accepted = table-accept t.ended t.right t.count h.sets t.within (sym none)

          pub few : t.count ≤ most_swatches
          few = accepted.1

          pub is_lab_deck : {ss : List Swatch} → length ss ≡ most_swatches
              → take t.count ss ≡ by_lightness (take t.count t.swatches)
              → IsLabDeck text (record { count = t.count; swatches = ss })
          unfolding swatches_of rows_of
          is_lab_deck size is =
              record { is = is ∙ ap by_lightness (table.is accepted.0 few); most = few; size = size }
