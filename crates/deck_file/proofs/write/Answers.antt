-- `deck_file::write` meets its contract. Assumes nothing.
use mathlib.Core.Path.{◌≡◌, refl, sym}
use mathlib.Core.List.{List}
use Prim.Native.Nat.{ℕ, ◌+◌, ◌*◌, ◌≤◌}
use native.Mathlib.Omega.{arith}
use lib.IntN.{ℤ}
use lib.ListN.{length}
use Rattle.std.proofs.lemmas.Result.{err_from_is_err_and}
use Rattle.refusal.proofs.RefusalLaws.{not-zero}
use Rattle.buffer.proofs.WritingLaws.{written-length}
use Rattle.deck.specs.Deck.{columns}
use Rattle.deck.specs.Inner.{Sizes}
use Rattle.deck_file.specs.Refusals.{write_refusal}
use Rattle.deck_file.proofs.RoundTrip.{columns-sizes, columns-kept, file-length}
use Rattle.deck_file.proofs.Refusing.{write-accepts}
use Rattle.deck_file.proofs.Answering.{writes-refused, writes-done}
use Rattle.deck_file.proofs.write.Goals as goal

-- what columns that are not refused are, and the room for their file
record Accepted (l a b : List ℤ) (room_len : ℕ) : Type 0 where
  none : write_refusal (columns l a b) room_len ≡ 0
  sizes : Sizes l a b
  room : 7 + 12 * length l ≤ room_len

accepted : {l a b : List ℤ} {room_len : ℕ} → 0 ≡ write_refusal (columns l a b) room_len → Accepted l a b room_len
accepted {l} {a} {b} {room_len} z =
    let h = write-accepts (columns l a b) room_len (sym z) in
    record { none = sym z; sizes = columns-sizes _ _ _ h.0; room = omega (arith, h.1, file-length (columns l a b)) }

pub returns-in_err-check_write-clause-writes : goal.returns-in_err-check_write-clause-writes
returns-in_err-check_write-clause-writes c =
    let p = err_from_is_err_and c.from_residual.result c.from_residual.ensures.1 in
    rw (p.1, p.2) (writes-refused _ _ c.in_err-check_write.ensures (not-zero _))

pub overflow_cast-l : goal.overflow_cast-l
overflow_cast-l c =
    let h = accepted c.in_ok-check_write.ensures in
    omega (arith, h.sizes.most)

pub put_header-start-requires : goal.put_header-start-requires
put_header-start-requires c =
    let h = accepted c.in_ok-check_write.ensures in
    omega (arith, h.room)

pub put_swatches-requires-clause-same_len : goal.put_swatches-requires-clause-same_len
put_swatches-requires-clause-same_len c =
    let h = accepted c.in_ok-check_write.ensures in
    (h.sizes.a_is, h.sizes.b_is)

pub put_swatches-requires-clause-room : goal.put_swatches-requires-clause-room
put_swatches-requires-clause-room c =
    let h = accepted c.in_ok-check_write.ensures in
    omega (arith, c.put_header-start.ensures.next, c.put_header-start.ensures.size, written-length c.put_header-start.ensures, h.room)

pub returns : goal.returns
returns c =
    let h = accepted c.in_ok-check_write.ensures in
    let done = writes-done _ _ (columns-kept _ _ _ h.sizes) h.none in
    record { writes = done c.put_header-start.ensures c.put_swatches.ensures; columns = (refl, (refl, refl)) }
