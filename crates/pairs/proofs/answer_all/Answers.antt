-- `pairs::answer_all` meets its contract.
use Rattle.std.proofs.Common.{◌++◌}
use Rattle.std.proofs.lemmas.Grind.{common_steps}
use Rattle.std.proofs.Common.{arith}
use mathlib.Core.Path.{sym, ap, ◌∙◌}
use Rattle.text.specs.Text.{Held}
use Rattle.text.specs.Stream.{last_text, text_so_far}
use Rattle.text.proofs.Whole.{text-whole, text-more}
use Rattle.pairs.proofs.Whole.{appends-more, consumes-more, state-more}
use Rattle.pairs.proofs.answer_all.Goals as goal

pub loop-preserved : goal.loop-preserved
loop-preserved g c =
    let l = c.loop.invariant in
    let s = c.in_ok-state.ensures in (
      l.0 ++ _,
      consumes-more _ _ _ _ _ l.1 c.in_ok-got.ensures.bytes.0,
      rw (text-more l.0 _, sym l.3) (appends-more _ _ _ _ _ l.2 s.answers),
      state-more l.0 _ l.3 s.state,
    )

pub returns-then-got-eq0 : goal.returns-then-got-eq0
returns-then-got-eq0 g c =
    let whole = text-whole c.loop.invariant.0 ∙ ap (λ (h : Held). text_so_far c.loop.invariant.0 ++ last_text h) (sym c.loop.invariant.3) in
    grind (arith, common_steps, whole)
