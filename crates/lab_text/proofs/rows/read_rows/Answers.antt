-- `lab_text::rows::read_rows` meets its contract. Assumes nothing.
use mathlib.Core.Path.{sym, ap, ◌∙◌}
use Prim.Native.Nat.{◌+◌}
use native.Mathlib.Omega.{arith}
use lib.ListN.{length, length-set}
use Rattle.buffer.proofs.PartsLaws.{from_out}
use Rattle.lab_text.specs.Keywords.{end_data}
use Rattle.lab_text.specs.Text.{row_lines, ends}
use Rattle.lab_text.proofs.RowLaws.{so-far-all, rows_end, ends-here, so_far_more, so_far_malformed, end-from}
use Rattle.lab_text.proofs.rows.read_rows.Goals as goal
use Rattle.lab_text.proofs.rows.read_rows.Goals.{in-Some+then-count-lt-MOST_SWATCHES, in-Some+else-count-lt-MOST_SWATCHES, in-None}

pub returns-then-equal : goal.returns-then-equal
unfolding end_data
returns-then-equal c =
    let end = end-from c.args.text.now (c.part_end-end.result + 1) in
    so-far-all _ _ c.loop-at.invariant.2 c.loop-at.invariant.1 (rows_end _ _ c.loop-at.invariant.2 c.part_end-end.ensures.is c.equal.ensures c.if-equal.true) (sym end ∙ ends-here _ _ c.loop-at.invariant.2 c.part_end-end.ensures.is c.equal.ensures c.if-equal.true)

pub loop-at-preserved : goal.loop-at-preserved
unfolding end_data
loop-at-preserved c =
    let low = c.part_end-end.ensures.low in
    let size = c.loop-at.invariant.1 in
    elim c.match-read_row.branch [
      | in-Some+then-count-lt-MOST_SWATCHES w ↦
          let more = so_far_more _ _ c.loop-at.invariant.2 c.part_end-end.ensures.is c.equal.ensures c.if-equal.false
          w.in-Some.ensures w.is_within-within.ensures size (λ _. w.swatches-is) in
          (omega arith, ap length w.swatches-is ∙ simp length-set size, rw (w.right-is, w.within-is) more)
      | in-Some+else-count-lt-MOST_SWATCHES w ↦
          let more = so_far_more _ _ c.loop-at.invariant.2 c.part_end-end.ensures.is c.equal.ensures c.if-equal.false
          w.in-Some.ensures w.is_within-within.ensures size (λ h. absurd (omega arith)) in
          (omega arith, ap length w.swatches-is ∙ size, rw (w.right-is, w.within-is) more)
      | in-None w ↦
          let more = so_far_malformed _ _ c.loop-at.invariant.2 c.part_end-end.ensures.is c.equal.ensures c.if-equal.false
          w.in-None.ensures in
          (omega arith, ap length w.swatches-is ∙ size, rw (w.swatches-is, w.right-is, w.within-is) more)
    ]

pub returns : goal.returns
unfolding row_lines ends
returns c =
    let none = from_out 10 c.args.text.now c.loop-at.at (omega arith) in
    so-far-all _ _ c.loop-at.invariant.2 c.loop-at.invariant.1 (ap row_lines none) (sym (ap ends none))
