-- `buffer::parts::cut` meets its contract. Assumes nothing.
use mathlib.Core.Path.{sym, ap, ◌∙◌}
use lib.ListN.{drop}
use Rattle.buffer.specs.Inner.{first_part}
use Rattle.buffer.proofs.PartsLaws.{from_out}
use Rattle.buffer.proofs.parts.cut.Goals as goal

pub returns-clause-part : goal.returns-clause-part
returns-clause-part c = sym (ap first_part (from_out _ _ _ c.if-at-bytes.false))

pub returns-clause-next : goal.returns-clause-next
returns-clause-next c =
    let none = from_out _ _ _ c.if-at-bytes.false in
    none ∙ sym (ap (drop 1) none)
