-- `measure::many::answer_pairs` meets its contract: the first k pairs are answered, and the rest is as it was. Assumes nothing.
use mathlib.Core.Path.{◌≡◌, refl, ap, ◌∙◌}
use Prim.Native.Nat.{◌+◌, ◌-◌, ◌*◌}
use native.Mathlib.Omega.{arith}
use lib.ListN.{length, length-set}
use Rattle.measure.specs.Many.{results}
use Rattle.measure.proofs.Answering.{answered-none, answered-more}
use Rattle.measure.proofs.many.answer_pairs.Goals as goal

pub loop-i-init : goal.loop-i-init
loop-i-init c = (refl, refl, answered-none _ _)

pub loop-i-preserved : goal.loop-i-preserved
loop-i-preserved c =
    let x = c.args in
    let k = 2 * c.loop-i.i in
    let h = c.loop-i.invariant in
    let old = results x.differences.now x.refusals.now in
    let first =
    answered-more _ _ _ k old (results c.loop-i.differences c.loop-i.refusals) {after = results c.put.new.differences c.put.new.refusals}
    h.2 (omega (arith, c.requires.room.0)) (omega (arith, c.requires.room.1))
    c.pair_at-x.ensures.0 c.pair_at-x.ensures.1 c.two_answers-first.ensures.first c.put.ensures.difference c.put.ensures.refusal in
    let second =
    answered-more _ _ _ (k + 1) old _ {after = results c.put-in-loop-i.new.differences c.put-in-loop-i.new.refusals}
    first (omega (arith, c.requires.room.0)) (omega (arith, c.requires.room.1))
    c.pair_at-y.ensures.0 c.pair_at-y.ensures.1 c.two_answers-first.ensures.second c.put-in-loop-i.ensures.difference c.put-in-loop-i.ensures.refusal in
    let e : k + 1 + 1 ≡ 2 * (c.loop-i.i + 1) = omega arith in (
      ap length c.put-in-loop-i.ensures.difference ∙ length-set _ _ _ ∙ ap length c.put.ensures.difference ∙ length-set _ _ _ ∙ h.0,
      ap length c.put-in-loop-i.ensures.refusal ∙ length-set _ _ _ ∙ ap length c.put.ensures.refusal ∙ length-set _ _ _ ∙ h.1,
      rw e at second,
    )

pub returns-then-n-eq1 : goal.returns-then-n-eq1
returns-then-n-eq1 c =
    let x = c.args in
    let last = x.n - 1 in
    let e : 2 * c.loop-i.i ≡ last = omega (arith, c.if-n-eq1.true) in
    let more : last + 1 ≡ x.n = omega (arith, c.if-n-eq1.true) in
    let old = results x.differences.now x.refusals.now in
    let all =
    answered-more _ _ _ last old (results c.loop-i.differences c.loop-i.refusals) {after = results c.put-then-n-eq1.new.differences c.put-then-n-eq1.new.refusals}
    (rw e at c.loop-i.invariant.2) (omega (arith, c.requires.room.0)) (omega (arith, c.requires.room.1))
    c.pair_at.ensures.0 c.pair_at.ensures.1 c.pair_answer-answer.ensures c.put-then-n-eq1.ensures.difference c.put-then-n-eq1.ensures.refusal in
    rw more at all
