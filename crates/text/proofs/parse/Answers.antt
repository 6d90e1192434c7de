-- `text::parse` meets its contract. Assumes nothing.
use mathlib.Core.Path.{refl, sym, ap, ◌∙◌}
use native.Mathlib.Omega.{arith}
use borrow.Author.Tests.{eqb-true, eqb-false}
use Rattle.text.specs.Line.{read_colour}
use Rattle.text.specs.Text.{answer_of}
use Rattle.text.specs.Inner.{colour_read, line_found}
use Rattle.text.proofs.LineLaws.{pair-none, pair-of-one, pair-two, more-refused, nothing_left}
use Rattle.text.proofs.parse.Goals as goal

pub returns-in_err-first : goal.returns-in_err-first
returns-in_err-first c =
    ap answer_of (ap line_found c.from_residual.ensures ∙ pair-none _ (sym c.in_err-first.ensures))

pub returns-in_err-second : goal.returns-in_err-second
returns-in_err-second c =
    let second = ap read_colour (sym c.after_space.ensures) ∙ sym c.in_err-second.ensures in
    ap answer_of
    (ap line_found c.from_residual-in_err-second.ensures ∙ pair-of-one c.args.s.now (sym c.in_ok-first.ensures) second)

pub returns-then-is_empty : goal.returns-then-is_empty
returns-then-is_empty c =
    let second = ap read_colour (sym c.after_space.ensures) ∙ sym c.in_ok-second.ensures in
    let none = nothing_left _ (eqb-true _ 0 (sym c.is_empty.ensures ∙ c.if-is_empty.true)) in
    ap answer_of (pair-two c.args.s.now (sym c.in_ok-first.ensures) second none)

pub returns-else-is_empty : goal.returns-else-is_empty
returns-else-is_empty c =
    let second = ap read_colour (sym c.after_space.ensures) ∙ sym c.in_ok-second.ensures in
    let some = eqb-false _ 0 (sym c.is_empty.ensures ∙ c.if-is_empty.false) in
    more-refused (colour_read c.in_ok-first.first, colour_read c.in_ok-second.second) c.in_ok-second.rest.now (omega (arith, some))
    ∙ ap answer_of (pair-two c.args.s.now (sym c.in_ok-first.ensures) second refl)
