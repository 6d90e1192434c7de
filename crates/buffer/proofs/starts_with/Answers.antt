-- `buffer::starts_with` meets its contract. Assumes nothing.
use mathlib.Core.Path.{◌≡◌, ◌∙◌}
use native.Mathlib.Omega.{arith}
use lib.ListN.{length, take}
use Rattle.buffer.specs.Numbers.{same}
use Rattle.buffer.proofs.NumberLaws.{pointwise-same, same-flip}
use Rattle.buffer.proofs.starts_with.Goals as goal

pub returns : goal.returns
unfolding same
returns c =
    let t = c.args.text.now in
    let is : c.starts_with.result ≡ same (take (length t) c.args.bytes.now) t =
    c.starts_with.ensures.value ∙ pointwise-same t _ ∙ same-flip t _ in
    rw is (grind arith)
