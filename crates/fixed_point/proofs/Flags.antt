-- The refusal numbers by the flags that decide them, in the order of the tests. Assumes nothing.
use Rattle.std.proofs.Common.{◌≡◌, ℕ, Bool, cond, not, ◌||◌}
use lib.Ieee.{Float}
use lib.Ieee.Scale.{finite}
use Rattle.fixed_point.specs.Limits.{lightness_in, opponent_in, weight_in, tolerance_in}
use Rattle.fixed_point.specs.Refusals.{reading_refusal, weights_refusal, tolerance_refusal}
use Rattle.fixed_point.specs.declared.Reading.{Reading}
use Rattle.fixed_point.specs.declared.Weights.{Weights}

-- L, a or b not finite; L outside; a, b outside
abbrev pub reading_by : Bool → Bool → Bool → Bool → ℕ
reading_by f ol oa ob = cond f 1 (cond ol 2 (cond (oa || ob) 3 0))

pub reading-by : (r : Reading) {f ol oa ob : Bool} → (not (finite r.l) || not (finite r.a) || not (finite r.b)) ≡ f
    → not (lightness_in r.l) ≡ ol
    → not (opponent_in r.a) ≡ oa → not (opponent_in r.b) ≡ ob → reading_refusal r ≡ reading_by f ol oa ob
unfolding reading_refusal
reading-by r p q t s = λ i. reading_by (p i) (q i) (t i) (s i)

abbrev pub weights_by : Bool → Bool → Bool → ℕ
weights_by l c h = cond (l || c || h) 4 0

pub weights-by : (w : Weights) {ol oc oh : Bool} → not (weight_in w.l) ≡ ol → not (weight_in w.c) ≡ oc → not
    (weight_in w.h) ≡ oh → weights_refusal w ≡ weights_by ol oc oh
unfolding weights_refusal
weights-by w p q t = λ i. weights_by (p i) (q i) (t i)

pub tolerance-by : (t : Float) {o : Bool} → not (tolerance_in t) ≡ o → tolerance_refusal t ≡ cond o 5 0
unfolding tolerance_refusal
tolerance-by t p = λ i. cond (p i) 5 0
