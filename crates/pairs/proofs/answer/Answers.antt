-- `pairs::answer` meets its contract.
use mathlib.Core.Path.{◌≡◌, sym}
use Prim.Native.Nat.{◌-◌}
use native.Mathlib.Omega.{arith}
use lib.ListN.{length-drop, length, take, drop}
use lib.Seq.{take_all, length-take-le}
use Rattle.text.proofs.Streaming.{starts-held}
use native.Mathlib.Nat.{le_refl}
use Rattle.buffer.proofs.WritingLaws.{written-take}
use Rattle.pairs.proofs.Whole.{appends-none, appends-more, held-on, text-none, text-on}
use Rattle.pairs.proofs.answer.Goals as goal

pub loop-from-init : goal.loop-from-init
loop-from-init g c = (omega arith, starts-held _, rw (text-none _) (appends-none _))

pub loop-from-preserved : goal.loop-from-preserved
loop-from-preserved g c =
    let l = c.loop-from in
    let p = c.step-p in
    let w = p.ensures.piece.text in (
      omega (arith, p.ensures.piece.read, length-take-le (length c.args.chunk.now - l.from) (drop l.from c.args.chunk.now), length-drop l.from c.args.chunk.now, l.invariant.0, c.loop-from-test.true),
      held-on c.args.chunk.now l.from p.result.read _ l.invariant.1 p.ensures.piece.held,
      rw (text-on c.args.chunk.now l.from p.result.read _ l.invariant.1)
          (appends-more _ _ _ _ _ l.invariant.2 (rw (sym (written-take (le_refl _) w)) c.in_ok-write_all.ensures.bytes)),
    )

pub returns-clause-answers : goal.returns-clause-answers
returns-clause-answers g c =
    let all : take c.loop-from.from c.args.chunk.now ≡ c.args.chunk.now = take_all _ _ (omega (arith, c.loop-from-test.false)) in
    rw (sym all) c.loop-from.invariant.2
