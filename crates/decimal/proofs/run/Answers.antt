-- `decimal::run` meets its contract. Assumes nothing.
use mathlib.Core.Path.{◌≡◌, sym, ap, ◌∙◌}
use Prim.Native.Nat.{ℕ, ◌^◌, ◌≤◌, ◌<◌}
use native.Mathlib.Nat.{sub-zero}
use native.Mathlib.Omega.{arith}
use lib.Dec.{lit<}
use Rattle.decimal.specs.Reading.{run_of}
use Rattle.decimal.proofs.ReadingLaws.{run-turn, run-stop, run_end, value-turn, digits-below}
use Rattle.decimal.proofs.run.Goals as goal

-- one digit more fits
value-below : {value count most : ℕ} → value < 10 ^ count → count < most → most ≤ 19 → value < 10 ^ 18
value-below h more few = digits-below 18 h (omega arith)

pub loop-count-init : goal.loop-count-init
unfolding run_of
loop-count-init c = record { is = rw sub-zero; small = lit< tt }

pub returns-in_default : goal.returns-in_default
returns-in_default c =
    record {
      is = sym (run-stop _ _ _ _ c.in_default.ensures) ∙ c.loop-count.invariant.is;
      few = omega arith;
      small = c.loop-count.invariant.small;
    }

pub overflow_mul-value : goal.overflow_mul-value
overflow_mul-value c = omega (arith, value-below c.loop-count.invariant.small c.loop-count-test.true c.requires)

pub overflow_add-value : goal.overflow_add-value
overflow_add-value c =
    omega (arith, value-below c.loop-count.invariant.small c.loop-count-test.true c.requires, c.in-Some.ensures.1)

pub loop-count-preserved : goal.loop-count-preserved
loop-count-preserved c =
    let d = c.in-Some.ensures in
    record {
      is = run-turn _ _ _ _ _ d.0 d.1 c.loop-count-test.true d.2 ∙ c.loop-count.invariant.is;
      small = value-turn _ _ _ c.loop-count.invariant.small d.1;
    }

pub returns : goal.returns
returns c =
    let all : c.loop-count.count ≡ c.args.most = omega arith in
    record {
      is =
          ap (λ n. record { value = c.loop-count.value; count = n; rest = c.loop-count.rest.now }) (sym all)
          ∙ sym (run_end _ _ _ (omega arith)) ∙ c.loop-count.invariant.is;
      few = omega arith;
      small = rw all at c.loop-count.invariant.small;
    }
