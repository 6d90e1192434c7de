-- `text::read_colour` meets its contract. Assumes nothing.
use mathlib.Core.Path.{sym, ap, ◌∙◌}
use Rattle.decimal.specs.Reading.{decimal_of}
use Rattle.text.specs.Inner.{colour_found}
use Rattle.text.proofs.LineLaws.{colour-none, colour-one, colour-two, colour-three}
use Rattle.text.proofs.read_colour.Goals as goal

pub returns-in_err-l : goal.returns-in_err-l
returns-in_err-l c = ap colour_found c.from_residual.ensures ∙ colour-none _ (sym c.in_err-l.ensures.value)

pub returns-in_err-a : goal.returns-in_err-a
returns-in_err-a c =
    let a = ap decimal_of (sym c.after_space.ensures) ∙ sym c.in_err-a.ensures.value in
    ap colour_found c.from_residual-in_err-a.ensures ∙ colour-one c.args.s.now (sym c.in_ok-l.ensures.value) a

pub returns-in_err-b : goal.returns-in_err-b
returns-in_err-b c =
    let a = ap decimal_of (sym c.after_space.ensures) ∙ sym c.in_ok-a.ensures.value in
    let b = ap decimal_of (sym c.after_space-2.ensures) ∙ sym c.in_err-b.ensures.value in
    ap colour_found c.from_residual-in_err-b.ensures ∙ colour-two c.args.s.now (sym c.in_ok-l.ensures.value) a b

pub returns : goal.returns
returns c =
    let a = ap decimal_of (sym c.after_space.ensures) ∙ sym c.in_ok-a.ensures.value in
    let b = ap decimal_of (sym c.after_space-2.ensures) ∙ sym c.in_ok-b.ensures.value in
    colour-three c.args.s.now (sym c.in_ok-l.ensures.value) a b
