-- What the inner functions say of what they read.
use Rattle.std.specs.Prelude.{◌≡◌, Bool, true, false, cond, List, [], ◌∷◌, map, ℕ, ◌≤◌, ◌<◌, leb, eqb, length, take, Option, MatchOption}
use Rattle.std.specs.Borrow.{Bor}
use Rattle.buffer.specs.Inner.{parts_from}
use Rattle.refusal.specs.Refusals.{first_refusal}
use Rattle.deck.specs.Deck.{most_swatches}
use Rattle.swatches.specs.Swatches.{all, is_within}
use Rattle.lab_text.specs.Fields.{sets_in, is_row, row_in}
use Rattle.lab_text.specs.Text.{line_at, body_of, row_order, row_lines, ends}
use Rattle.lab_text.specs.declared.head.Order.{Order}
use Rattle.lab_text.specs.declared.head.Head.{Head}
use Rattle.lab_text.specs.declared.rows.Table.{Table}

-- r is x if the test was passed, and else nothing
abbrev pub IsRead : {A : Type 0} → Bool → A → Option A → Type 0
IsRead passed x r = MatchOption r (passed ≡ false) (λ v. (passed ≡ true) × (v ≡ x))

-- the texts of some words
abbrev pub texts : List (Bor (List ℕ)) → List (List ℕ)
texts ws = map (λ w. w.now) ws

-- each field is one of the four of a row
pub record OrderIn (o : Order) : Type 0 where
  pub code : o.code < 4
  pub l : o.l < 4
  pub a : o.a < 4
  pub b : o.b < 4

-- ---- a text

-- h is what the five lines of a text say
pub record IsHead (text : List ℕ) (h : Head) : Type 0 where
  pub order : h.order ≡ row_order text
  pub sets : h.sets ≡ sets_in (line_at text 3)
  pub rows : parts_from 10 text h.rows ≡ body_of text

-- of the lines from the rows on
pub record TableRead (o : Order) (body : List (List ℕ)) (r : Table) : Type 0 where
  pub size : length r.swatches ≡ most_swatches
  pub ended : r.ended ≡ ends body
  pub right : r.right ≡ all (is_row o) (row_lines body)
  pub count : r.count ≡ length (row_lines body)
  pub within : r.right ≡ true → r.within ≡ all is_within (map (row_in o) (row_lines body))
  pub is : r.right ≡ true → r.count ≤ most_swatches → take r.count r.swatches ≡ map (row_in o) (row_lines body)

-- the first that applies to a text whose first five lines are right, from what its tests found
unfoldable pub table_refusal : Bool → Bool → ℕ → ℕ → Bool → ℕ
table_refusal ended right count sets within =
    first_refusal
    (cond ended 0 14 ∷ cond right 0 15 ∷ cond (eqb count sets) 0 16 ∷ cond (leb count most_swatches) 0 6 ∷ cond within 0 7 ∷ [])
