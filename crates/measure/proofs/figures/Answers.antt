-- `measure::figures` meets its contract. Assumes nothing.
use mathlib.Core.Path.{refl, sym, ap, ◌∙◌, subst}
use Rattle.std.proofs.lemmas.Result.{err_from_is_err_and}
use Rattle.refusal.proofs.RefusalLaws.{gives-value, gives-refusal}
use Rattle.difference.specs.Ciede2000.{figures_of}
use Rattle.difference.specs.Inner.{FiguresIn}
use Rattle.difference.proofs.Points.{prepared-in}
use Rattle.difference.proofs.FigureBounds.{figures-in}
use Rattle.measure.specs.Answers.{figures_row}
use Rattle.measure.proofs.figures.Goals as goal

pub returns-in_err-x : goal.returns-in_err-x
returns-in_err-x c =
    let p = err_from_is_err_and c.from_residual.result c.from_residual.ensures.1 in
    rw (p.1, p.2) (gives-refusal _ _ c.in_err-x.ensures.refusal)

pub figures_row-requires : goal.figures_row-requires
figures_row-requires c =
    let h = c.figures.ensures in
    record {
      figures = record { is = refl; p1 = h.p1; p2 = h.p2; hues = h.hues; parts = h.parts; difference = h.difference };
      figures_in = subst FiguresIn (sym h.is) (figures-in _ _ _ (prepared-in c.in_ok-x.x.s) (prepared-in c.in_ok-x.x.t));
    }

pub returns : goal.returns
returns c =
    let x = c.in_ok-x.ensures.accepted in
    let is = c.figures.ensures.is ∙ (λ i. figures_of (x.weights i) (x.first i) (x.second i)) in
    gives-value (sym c.in_ok-x.ensures.refusal) (c.figures_row.ensures ∙ ap figures_row is)
