-- `buffer::put_bytes` meets its contract. Assumes nothing.
use mathlib.Core.Path.{refl, ◌∙◌}
use Rattle.std.proofs.Common.{append_assoc}
use native.Mathlib.Nat.{le_refl}
use native.Mathlib.Omega.{arith}
use Rattle.std.proofs.lemmas.List.Edits.{paste_all, sets-eq}
use Rattle.std.proofs.lemmas.Slice.{put_mid-paste}
use Rattle.buffer.proofs.put_bytes.Goals as goal

pub returns : goal.returns
returns c =
    let pasted = put_mid-paste c.args.at _ c.args.out.now _ c.args.text.now _ c.copy_from_slice.ensures.after (omega arith) refl in
    record {
      is =
          rw (sets-eq c.args.text.now c.args.out.now c.args.at c.requires, append_assoc)
          (pasted ∙ paste_all c.args.out.now c.args.at c.args.text.now _ refl);
      next = refl;
      size = le_refl _;
    }
