-- `lab_text::import` meets its contract. Assumes nothing.
use mathlib.Core.Path.{◌≡◌, sym}
use mathlib.Core.List.{List}
use Prim.Native.Nat.{ℕ}
use native.Mathlib.Omega.{arith}
use lib.ListN.{length, take}
use lib.Seq.{length-take-le}
use Rattle.std.proofs.lemmas.Result.{err_from_is_err_and}
use Rattle.refusal.proofs.RefusalLaws.{not-zero}
use Rattle.lab_text.specs.declared.LabDeck.{LabDeck}
use Rattle.lab_text.specs.Imports.{IsLabDeck}
use Rattle.lab_text.proofs.ImportLaws.{columns-by-text, columns-by_room, imports-refused, imports-done}
use Rattle.lab_text.proofs.import.Goals as goal

-- as many swatches as the deck counts
taken : {text : List ℕ} {d : LabDeck} → IsLabDeck text d → length (take d.count d.swatches) ≡ d.count
taken {d = d} is = length-take-le d.count d.swatches (omega (arith, is.most, is.size))

pub returns-in_err-deck-clause-imports : goal.returns-in_err-deck-clause-imports
returns-in_err-deck-clause-imports c =
    let p = err_from_is_err_and c.from_residual.result c.from_residual.ensures.1 in
    rw (p.1, p.2) (imports-refused _ _ _ _ _ (columns-by-text _ _ _ _ _ _ c.in_err-deck.ensures.refusal) (not-zero _))

pub returns-in_err-check_room-clause-imports : goal.returns-in_err-check_room-clause-imports
returns-in_err-check_room-clause-imports c =
    let p = err_from_is_err_and c.from_residual-in_err-check_room.result c.from_residual-in_err-check_room.ensures.1 in
    rw (p.1, p.2)
    (imports-refused _ _ _ _ _
    (columns-by_room c.args.text.now _ _ _ _ c.in_ok-deck.ensures.refusal c.in_ok-deck.ensures.deck c.in_err-check_room.ensures) (not-zero _))

pub returns-clause-imports : goal.returns-clause-imports
returns-clause-imports c =
    let is = c.in_ok-deck.ensures.deck in
    let size = taken is in
    let none = sym (columns-by_room c.args.text.now _ _ _ _ c.in_ok-deck.ensures.refusal is c.in_ok-check_room.ensures) in
    imports-done _ _ _ _ _ is none (rw size at c.put_codes.ensures) (rw size at c.put_colours.ensures.l)
    (rw size at c.put_colours.ensures.a) (rw size at c.put_colours.ensures.b)
