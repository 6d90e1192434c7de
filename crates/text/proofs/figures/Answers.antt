-- `text::figures` meets its contract. Assumes nothing.
use mathlib.Core.Path.{sym, ap, ap₂, ◌∙◌}
use Prim.Native.Nat.{ℕ}
use Rattle.std.proofs.lemmas.Result.{err_from_is_err_and}
use Rattle.refusal.specs.Refusals.{first_of}
use Rattle.refusal.proofs.RefusalLaws.{first-refused}
use Rattle.sample.specs.Sample.{colour_refusal, colour_sample}
use Rattle.text.specs.Text.{figures_line}
use Rattle.text.specs.Inner.{colour_read}
use Rattle.text.proofs.Answering.{pair-figures, pair-refused}
use Rattle.text.proofs.figures.Goals as goal

pub returns-in_err-s : goal.returns-in_err-s
returns-in_err-s c =
    let p = err_from_is_err_and c.from_residual.result c.from_residual.ensures.1 in
    rw (p.1, p.2) (pair-refused _ _ _ (sym (first-refused _ _ (c.in_err-s.ensures.refusal ∙ c.of.ensures.refusal))))

pub returns-in_err-t : goal.returns-in_err-t
returns-in_err-t c =
    let p = err_from_is_err_and c.from_residual-in_err-t.result c.from_residual-in_err-t.ensures.1 in
    let first = c.in_ok-s.ensures.refusal ∙ c.of.ensures.refusal in
    let by = c.in_err-t.ensures.refusal ∙ c.of-2.ensures.refusal ∙ ap (λ (n : ℕ). first_of n (colour_refusal (colour_read c.args.second))) first in
    rw (p.1, p.2) (pair-refused _ _ _ by)

pub returns : goal.returns
returns c =
    let s = c.in_ok-s.ensures.sample ∙ ap colour_sample (c.of.ensures.same (sym c.in_ok-s.ensures.refusal)) in
    let t = c.in_ok-t.ensures.sample ∙ ap colour_sample (c.of-2.ensures.same (sym c.in_ok-t.ensures.refusal)) in
    c.work.ensures ∙ ap₂ figures_line s t
    ∙ pair-figures _ _ (c.in_ok-s.ensures.refusal ∙ c.of.ensures.refusal) (c.in_ok-t.ensures.refusal ∙ c.of-2.ensures.refusal)
