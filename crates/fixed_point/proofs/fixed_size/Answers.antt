-- `fixed_point::fixed_size` meets its contract. Assumes nothing.
use Rattle.std.proofs.Common.{false, ◌≡◌, ℕ, ◌*◌, ◌/◌, ◌<◌, sym, ◌∙◌, subst, arith}
use lib.Ieee.{Float, to_unsigned}
use lib.Ieee.Exact.{HasValue}
use lib.Ieee.Positive.{num, den, den_pos}
use Rattle.fixed_point.specs.Inner.{AtMost}
use Rattle.fixed_point.proofs.Nearest.{small, cut-asks, cut-is, cut_small, cast-asks, whole-value, equal-whole}
use Rattle.fixed_point.proofs.Nearest.{unequal-whole, size-even, size-half, size_above}
use Rattle.fixed_point.proofs.fixed_size.Goals as goal
use Rattle.fixed_point.proofs.fixed_size.Goals.{then-w-t, else-w-t}

-- t is the number of whole halves, which are few
halves_cut : (w : Float) {x : Float} {t : ℕ} → AtMost 128 x → HasValue w false (num x * 20000) (den x) → t ≡ to_unsigned 64 w
    → t ≡ num x * 20000 / den x
halves_cut w h v e = e ∙ cut-is _ _ _ (small _ h) v

few_halves : {x : Float} {t : ℕ} → AtMost 128 x → t ≡ num x * 20000 / den x → t < 2560001
few_halves h e = subst (λ (n : ℕ). n < 2560001) (sym e) (cut_small _ _ (small _ h))

pub truncating_f64_to_u64-t-requires : goal.truncating_f64_to_u64-t-requires
truncating_f64_to_u64-t-requires c = let p = cut-asks _ _ _ (small _ c.requires) c.halves-w.ensures in record { lower_bound = p.0; upper_bound = p.1 }

pub int_to_float-t : goal.int_to_float-t
int_to_float-t c =
    let cut = halves_cut _ c.requires c.halves-w.ensures c.truncating_f64_to_u64-t.ensures in
    let few = few_halves c.requires cut in
    cast-asks _ few

pub half-from_a_half-requires : goal.half-from_a_half-requires
half-from_a_half-requires c =
    let cut = halves_cut _ c.requires c.halves-w.ensures c.truncating_f64_to_u64-t.ensures in
    let few = few_halves c.requires cut in
    omega arith

pub returns-then-t-eq0 : goal.returns-then-t-eq0
returns-then-t-eq0 c =
    let cut = halves_cut _ c.requires c.halves-w.ensures c.truncating_f64_to_u64-t.ensures in
    size-even _ c.requires _ cut c.if-t-eq0.true

pub returns-else-t-eq0 : goal.returns-else-t-eq0
returns-else-t-eq0 c =
    let cut = halves_cut _ c.requires c.halves-w.ensures c.truncating_f64_to_u64-t.ensures in
    let few = few_halves c.requires cut in
    elim c.if-w-t.branch [
      | then-w-t w ↦
          w.from_a_half-is ∙ w.half-from_a_half.ensures
          ∙ size-half _ c.requires _ cut c.if-t-eq0.false
          (equal-whole _ _ _ _ _ c.halves-w.ensures (whole-value _ few) w.if-w-t.true)
      | else-w-t w ↦
          w.from_a_half-is
          ∙ size_above _ c.requires _ cut c.if-t-eq0.false
          (unequal-whole _ _ _ _ _ (den_pos c.args.x) c.halves-w.ensures (whole-value _ few) w.if-w-t.false)
    ]
