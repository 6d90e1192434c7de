-- `near::Neighbourhood::beyond_radius` meets its contract: the radius is that of the definition, call by call. Assumes nothing.
use mathlib.Core.Path.{◌≡◌, sym, ap, ◌∙◌}
use lib.IntN.{nat_abs}
use Rattle.signed.proofs.Squares.{apart-size}
use Rattle.sample.specs.Inner.{lab_of}
use Rattle.difference.specs.Pair.{lightness_difference}
use Rattle.near.specs.Inner.{left_tolerance, radius_of, near_radius, beyond_radius}
use Rattle.near.proofs.Neighbourhood.beyond_radius.Goals as goal

pub returns : goal.returns
unfolding beyond_radius near_radius lightness_difference lab_of
returns c =
    let d = c.abs_diff-d.ensures ∙ sym (apart-size c.args.self.reading.l c.args.s.l) in
    let l : c.left_tolerance-left.result ≡ left_tolerance c.args.self.tolerance c.args.self.kl (nat_abs (lightness_difference (lab_of c.args.s) (lab_of c.args.self.reading))) =
    c.left_tolerance-left.ensures.is ∙ ap (left_tolerance c.args.self.tolerance c.args.self.kl) d in
    let e : c.radius-r.result ≡ near_radius c.args.self.kl c.args.self.k c.args.self.tolerance (lab_of c.args.s) (lab_of c.args.self.reading) =
    c.radius-r.ensures.is ∙ (λ i. radius_of (l i) c.args.self.k (c.chromas_most.ensures.is i)) in
    cc (e, c.distance_square.ensures)
