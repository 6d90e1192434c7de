-- `deck_file::read` meets its contract. Assumes nothing.
use mathlib.Core.Path.{◌≡◌, refl, sym}
use mathlib.Core.List.{List}
use Prim.Native.Nat.{ℕ}
use native.Mathlib.Omega.{arith}
use Rattle.std.proofs.lemmas.Result.{err_from_is_err_and}
use Rattle.refusal.proofs.RefusalLaws.{not-zero}
use Rattle.buffer.proofs.NumberLaws.{Bytes}
use Rattle.deck_file.specs.Refusals.{read_refusal}
use Rattle.deck_file.proofs.RoundTrip.{Formed, form-formed, file-parts}
use Rattle.deck_file.proofs.Refusing.{Accepts, read-accepts}
use Rattle.deck_file.proofs.Answering.{reads-refused, reads-done}
use Rattle.deck_file.proofs.read.Goals as goal

-- what a file that is not refused is, and the room for it
accepted : {bs : List ℕ} {l a b : ℕ} → 0 ≡ read_refusal bs l a b → Accepts bs l a b
accepted z = read-accepts _ _ _ _ (sym z)

formed : {bs : List ℕ} {l a b : ℕ} → Accepts bs l a b → Formed bs
formed h = form-formed _ (file-parts _ h.file).0

pub returns-in_err-n-clause-reads : goal.returns-in_err-n-clause-reads
returns-in_err-n-clause-reads c =
    let p = err_from_is_err_and c.from_residual.result c.from_residual.ensures.1 in
    rw (p.1, p.2) (reads-refused _ _ _ _ c.in_err-n.ensures.refusal (not-zero _))

pub read_column-requires-clause-in_file : goal.read_column-requires-clause-in_file
read_column-requires-clause-in_file c =
    let h = accepted c.in_ok-n.ensures.refusal in
    λ k below. omega (arith, c.in_ok-n.ensures.count, formed h)

pub read_column-requires-clause-room : goal.read_column-requires-clause-room
read_column-requires-clause-room c =
    let h = accepted c.in_ok-n.ensures.refusal in
    omega (arith, c.in_ok-n.ensures.count, h)

pub read_column-requires-2-clause-in_file : goal.read_column-requires-2-clause-in_file
read_column-requires-2-clause-in_file c =
    let h = accepted c.in_ok-n.ensures.refusal in
    λ k below. omega (arith, c.in_ok-n.ensures.count, formed h)

pub read_column-requires-2-clause-room : goal.read_column-requires-2-clause-room
read_column-requires-2-clause-room c =
    let h = accepted c.in_ok-n.ensures.refusal in
    omega (arith, c.in_ok-n.ensures.count, h)

pub read_column-requires-3-clause-in_file : goal.read_column-requires-3-clause-in_file
read_column-requires-3-clause-in_file c =
    let h = accepted c.in_ok-n.ensures.refusal in
    λ k below. omega (arith, c.in_ok-n.ensures.count, formed h)

pub read_column-requires-3-clause-room : goal.read_column-requires-3-clause-room
read_column-requires-3-clause-room c =
    let h = accepted c.in_ok-n.ensures.refusal in
    omega (arith, c.in_ok-n.ensures.count, h)

pub returns : goal.returns
returns c =
    let bytes : Bytes c.args.file.now = λ i. (c.shared_slice_known-1.given i).fits in
    let z = sym c.in_ok-n.ensures.refusal in record {
      reads = reads-done _ _ _ _ bytes z c.in_ok-n.ensures.count c.read_column.ensures c.read_column-2.ensures
          c.read_column-3.ensures;
      file = refl;
    }
