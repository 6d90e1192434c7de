-- `lab_text::read` meets its contract. Assumes nothing.
use mathlib.Core.Path.{◌≡◌, ◌∙◌}
use Prim.Native.Nat.{◌≤◌}
use native.Mathlib.Omega.{arith}
use lib.ListN.{length, take}
use lib.Seq.{length-take-le}
use Rattle.std.specs.Prelude.{Some, None}
use Rattle.std.proofs.lemmas.Result.{err_from_is_err_and}
use Rattle.refusal.specs.declared.Refusal.TheVariants.{Form}
use Rattle.deck.specs.Deck.{most_swatches}
use Rattle.swatches.proofs.SwatchLaws.{sorted-front}
use Rattle.lab_text.proofs.ReadLaws.{head-refused, order-in, table-refusal, few, is_lab_deck}
use Rattle.lab_text.proofs.read.Goals as goal

pub returns-in_err-head-clause-refusal : goal.returns-in_err-head-clause-refusal
returns-in_err-head-clause-refusal c =
    let p = err_from_is_err_and c.from_residual.result c.from_residual.ensures.1 in
    let none : c.read_head.result ≡ None = grind arith in
    let e : c.in_err-head.field-0.0 ≡ Form = grind arith in
    rw (p.1, p.2, e) (head-refused _ (rw none at c.read_head.ensures))

pub read_rows-table-requires : goal.read_rows-table-requires
read_rows-table-requires c =
    let some : c.read_head.result ≡ Some c.in_ok-head.head = grind arith in
    let h = rw some at c.read_head.ensures in order-in _ h.0 h.1

pub returns-in_err-check-clause-refusal : goal.returns-in_err-check-clause-refusal
returns-in_err-check-clause-refusal c =
    let p = err_from_is_err_and c.from_residual-in_err-check.result c.from_residual-in_err-check.ensures.1 in
    let some : c.read_head.result ≡ Some c.in_ok-head.head = grind arith in
    let h = rw some at c.read_head.ensures in
    rw (p.1, p.2) (c.in_err-check.ensures ∙ table-refusal _ h.0 h.1 c.read_rows-table.ensures)

pub shared_ref_as_front-by_lightness : goal.shared_ref_as_front-by_lightness
shared_ref_as_front-by_lightness c =
    let some : c.read_head.result ≡ Some c.in_ok-head.head = grind arith in
    let h = rw some at c.read_head.ensures in few _ h.0 h.1 c.read_rows-table.ensures c.in_ok-check.ensures

pub returns-clause-refusal : goal.returns-clause-refusal
returns-clause-refusal c =
    let some : c.read_head.result ≡ Some c.in_ok-head.head = grind arith in
    let h = rw some at c.read_head.ensures in
    c.in_ok-check.ensures ∙ table-refusal _ h.0 h.1 c.read_rows-table.ensures

pub returns-clause-deck : goal.returns-clause-deck
returns-clause-deck c =
    let some : c.read_head.result ≡ Some c.in_ok-head.head = grind arith in
    let h = rw some at c.read_head.ensures in
    let t = c.read_rows-table.result in
    let few : t.count ≤ most_swatches = few _ h.0 h.1 c.read_rows-table.ensures c.in_ok-check.ensures in
    let size : length (take t.count t.swatches) ≡ t.count =
    length-take-le t.count t.swatches (omega (arith, few, c.read_rows-table.ensures.size)) in
    is_lab_deck _ h.0 h.1 c.read_rows-table.ensures c.in_ok-check.ensures (c.by_lightness.auto.sorted ∙ c.no_swatches-swatches.ensures)
    (rw size at (sorted-front _ _ _ c.by_lightness.ensures))
