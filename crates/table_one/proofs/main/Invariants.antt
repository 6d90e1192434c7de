-- At most two lines of each pair so far count.
use Rattle.std.proofs.Common.{◌≤◌, ◌*◌}
use Rattle.table_one.proofs.main.Given as goal

abbrev pub invariant-loop-k : goal.invariant-loop-k
invariant-loop-k l = l.within ≤ 2 * l.k
