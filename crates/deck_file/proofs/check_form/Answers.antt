-- `deck_file::check_form` meets its contract: a refusal for each return. Assumes nothing.
use mathlib.Core.Path.{sym, ◌∙◌}
use native.Mathlib.Omega.{arith}
use Rattle.deck_file.specs.Layout.{version_in}
use Rattle.deck_file.proofs.Refusing.{mark-wrong, version-short, version-wrong, length-wrong, form-right}
use Rattle.deck_file.proofs.check_form.Goals as goal

pub returns-then-not-starts_with : goal.returns-then-not-starts_with
returns-then-not-starts_with c = mark-wrong _ (sym c.starts_with.ensures ∙ c.if-not-starts_with.true)

pub returns-then-length-lt-VERSION_END : goal.returns-then-length-lt-VERSION_END
returns-then-length-lt-VERSION_END c =
    version-short _ (sym c.starts_with.ensures ∙ c.if-not-starts_with.false) c.if-length-lt-VERSION_END.true

pub returns-then-u16_at-ne-VERSION : goal.returns-then-u16_at-ne-VERSION
unfolding version_in
returns-then-u16_at-ne-VERSION c =
    version-wrong _ (sym c.starts_with.ensures ∙ c.if-not-starts_with.false) c.if-length-lt-VERSION_END.false (λ v. c.if-u16_at-ne-VERSION.true (c.u16_at.ensures ∙ v))

pub returns-then-length-lt-HEADER : goal.returns-then-length-lt-HEADER
unfolding version_in
returns-then-length-lt-HEADER c =
    length-wrong _ (sym c.starts_with.ensures ∙ c.if-not-starts_with.false) c.if-length-lt-VERSION_END.false
    (sym c.u16_at.ensures ∙ c.if-u16_at-ne-VERSION.false) (λ k. omega arith)

pub returns-then-length-count_in : goal.returns-then-length-count_in
unfolding version_in
returns-then-length-count_in c =
    length-wrong _ (sym c.starts_with.ensures ∙ c.if-not-starts_with.false) c.if-length-lt-VERSION_END.false
    (sym c.u16_at.ensures ∙ c.if-u16_at-ne-VERSION.false) (λ k. omega (arith, c.count_in.ensures))

pub returns : goal.returns
unfolding version_in
returns c =
    form-right _ (sym c.starts_with.ensures ∙ c.if-not-starts_with.false) c.if-length-lt-VERSION_END.false
    (sym c.u16_at.ensures ∙ c.if-u16_at-ne-VERSION.false) (omega (arith, c.count_in.ensures))
