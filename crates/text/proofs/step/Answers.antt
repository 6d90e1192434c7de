-- `text::step` meets its contract. Assumes nothing.
use mathlib.Core.Path.{refl, ap, ◌∙◌}
use Prim.Native.Nat.{◌+◌, ◌≤◌}
use native.Mathlib.Omega.{arith}
use lib.ListN.{length}
use Rattle.text.specs.Stream.{answer_most, state_held}
use Rattle.text.proofs.Streaming.{starts-held, starts-text, going-is, going-answer, going-push}
use Rattle.text.proofs.Whole.{follows}
use Rattle.text.proofs.step.Goals as goal
use Rattle.text.proofs.step.Goals.{then-b-eq10, else-b-eq10}

pub loop-read-init : goal.loop-read-init
loop-read-init c = record { same = refl; held = starts-held _; text = starts-text _ _ }

pub loop-read-preserved : goal.loop-read-preserved
loop-read-preserved c =
    let room : c.loop-read.written + answer_most ≤ length c.loop-read.out = omega (arith, c.loop-read.invariant.text.next, c.loop-read.invariant.text.size) in
    elim c.if-b-eq10.branch [
      | then-b-eq10 w ↦
          going-is w.out-is (ap state_held w.state-is ∙ w.clear.ensures) w.written-is
          (going-answer c.loop-read.invariant c.loop-read-test.true refl w.if-b-eq10.true room w.put_answer-written.ensures)
      | else-b-eq10 w ↦
          going-is w.out-is (ap state_held w.state-is) w.written-is
          (going-push c.loop-read.invariant c.loop-read-test.true refl w.if-b-eq10.false w.push.ensures)
    ]

pub returns-then-out-written-lt-ANSWER_MOST-clause-whole : goal.returns-then-out-written-lt-ANSWER_MOST-clause-whole
returns-then-out-written-lt-ANSWER_MOST-clause-whole c = follows c.loop-read.invariant (grind arith)

pub returns-clause-whole : goal.returns-clause-whole
returns-clause-whole c = follows c.loop-read.invariant (omega (arith, c.loop-read-test.false, c.loop-read.auto.read-end))
