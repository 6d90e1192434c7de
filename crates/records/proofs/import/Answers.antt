-- `records::import` meets its contract. Assumes nothing.
use mathlib.Core.Path.{◌≡◌, sym}
use native.Mathlib.Omega.{arith}
use Rattle.std.specs.Prelude.{leb, length}
use Rattle.std.proofs.lemmas.Grind.{common_steps}
use Rattle.std.proofs.lemmas.Result.{err_from_is_err_and}
use Rattle.refusal.specs.Refusals.{number_of}
use Rattle.refusal.proofs.RefusalLaws.{not-zero}
use Rattle.deck_file.specs.Refusals.{room_refusal}
use Rattle.records.proofs.Importing.{list-by-text, list-by_room, imports-refused, imports-done}
use Rattle.records.proofs.import.Goals as goal

pub returns-in_err-deck-clause-imports : goal.returns-in_err-deck-clause-imports
returns-in_err-deck-clause-imports c =
    let p = err_from_is_err_and c.from_residual.result c.from_residual.ensures.1 in
    let refused = list-by-text _ c.args.records.now _ c.in_err-deck.ensures.refusal in
    rw (p.1, p.2) (imports-refused _ _ (grind (arith, common_steps)) refused (not-zero _))

pub returns-in_err-check_room-clause-imports : goal.returns-in_err-check_room-clause-imports
returns-in_err-check_room-clause-imports c =
    let p = err_from_is_err_and c.from_residual-in_err-check_room.result c.from_residual-in_err-check_room.ensures.1 in
    let deck = c.in_ok-deck.ensures in
    let room : number_of c.in_err-check_room.field-0.0 ≡ room_refusal (leb c.in_ok-deck.deck.count (length c.args.records.now)) = grind (arith, common_steps) in
    let refused = list-by_room c.args.text.now c.args.records.now deck.refusal deck.deck room in
    rw (p.1, p.2) (imports-refused _ _ (grind (arith, common_steps)) refused (not-zero _))

pub returns-clause-imports : goal.returns-clause-imports
returns-clause-imports c =
    let deck = c.in_ok-deck.ensures in
    let room : 0 ≡ room_refusal (leb c.in_ok-deck.deck.count (length c.args.records.now)) = grind (arith, common_steps) in
    let none = sym (list-by_room c.args.text.now c.args.records.now deck.refusal deck.deck room) in
    imports-done _ c.args.records.now deck.deck none (grind (arith, common_steps))
