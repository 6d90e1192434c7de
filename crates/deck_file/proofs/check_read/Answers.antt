-- `deck_file::check_read` meets its contract. Assumes nothing.
use mathlib.Core.Path.{◌≡◌, sym}
use Rattle.std.proofs.Common.{rules}
use Rattle.std.proofs.lemmas.Result.{err_from_is_err_and}
use Rattle.deck.specs.Deck.{deck_refusal}
use Rattle.deck_file.specs.Layout.{read_of}
use Rattle.deck_file.proofs.RoundTrip.{form-formed}
use Rattle.deck_file.proofs.Refusing.{read-by-form, read-by-deck, read-by_room}
use Rattle.deck_file.proofs.check_read.Goals as goal

pub returns-in_err-check_form-clause-refusal : goal.returns-in_err-check_form-clause-refusal
returns-in_err-check_form-clause-refusal c =
    let p = err_from_is_err_and c.from_residual.result c.from_residual.ensures.1 in
    rw (p.1, p.2) (read-by-form _ _ _ _ _ c.in_err-check_form.ensures)

pub invariant_of-formed : goal.invariant_of-formed
invariant_of-formed c = record { fits = (form-formed _ (sym c.in_ok-check_form.ensures)).length_is }

pub returns-in_err-check_swatches-clause-refusal : goal.returns-in_err-check_swatches-clause-refusal
returns-in_err-check_swatches-clause-refusal c =
    let p = err_from_is_err_and c.from_residual-in_err-check_swatches.result c.from_residual-in_err-check_swatches.ensures.1 in
    rw (p.1, p.2) (read-by-deck _ _ _ _ _ c.in_ok-check_form.ensures c.in_err-check_swatches.ensures)

pub returns-in_err-check_room-clause-refusal : goal.returns-in_err-check_room-clause-refusal
returns-in_err-check_room-clause-refusal c =
    let p = err_from_is_err_and c.from_residual-in_err-check_room.result c.from_residual-in_err-check_room.ensures.1 in
    let tested : 0 ≡ deck_refusal (read_of c.args.file.now) = search rules in
    rw (p.1, p.2) (read-by_room _ _ _ _ c.in_ok-check_form.ensures tested (rw c.count-n.ensures at c.in_err-check_room.ensures))

pub returns-clause-refusal : goal.returns-clause-refusal
returns-clause-refusal c =
    read-by_room _ _ _ _ c.in_ok-check_form.ensures c.in_ok-check_swatches.ensures (rw c.count-n.ensures at c.in_ok-check_room.ensures)
