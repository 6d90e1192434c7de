-- `decimal::run` meets its contract. Assumes nothing.
use mathlib.Core.Path.{◌≡◌}
use Prim.Native.Nat.{◌-◌, ◌^◌, ◌<◌}
use Rattle.decimal.specs.Reading.{run_on, run_of}
use Rattle.decimal.proofs.run.Given as goal

abbrev pub invariant-loop-count : goal.invariant-loop-count
invariant-loop-count l = record {
  is : run_on (l.most - l.count) l.value l.count l.rest ≡ run_of l.most l.s;
  small : l.value < 10 ^ l.count;
}
