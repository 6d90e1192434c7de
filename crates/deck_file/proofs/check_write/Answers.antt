-- `deck_file::check_write` meets its contract. Assumes nothing.
use mathlib.Core.Path.{sym}
use native.Mathlib.Omega.{arith}
use Rattle.std.proofs.lemmas.Result.{err_from_is_err_and}
use Rattle.deck_file.proofs.Refusing.{write-by-deck, write-by_room}
use Rattle.deck_file.proofs.RoundTrip.{columns-sizes}
use Rattle.deck_file.proofs.check_write.Goals as goal

pub returns-in_err-check_deck : goal.returns-in_err-check_deck
returns-in_err-check_deck c =
    let p = err_from_is_err_and c.from_residual.result c.from_residual.ensures.1 in
    rw (p.1, p.2) (write-by-deck _ _ _ c.in_err-check_deck.ensures.refusal)

pub overflow_mul-l : goal.overflow_mul-l
overflow_mul-l c = omega (arith, columns-sizes _ _ _ (sym c.in_ok-check_deck.ensures.refusal))

pub overflow_add-l : goal.overflow_add-l
overflow_add-l c = omega (arith, columns-sizes _ _ _ (sym c.in_ok-check_deck.ensures.refusal))

pub returns : goal.returns
returns c = write-by_room _ _ c.in_ok-check_deck.ensures.refusal c.check_room.ensures
