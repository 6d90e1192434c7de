-- `places::first_in_lane` meets its contract: lo and hi keep the answer between them, and a turn brings them nearer.
-- Assumes nothing.
use Prim.Native.Nat.{◌-◌}
use Rattle.places.specs.Inner.{lane_at}
use Rattle.places.proofs.Steps.{Bracket}
use Rattle.places.proofs.first_in_lane.Given as goal

abbrev pub invariant-loop-lo : goal.invariant-loop-lo
invariant-loop-lo l = Bracket (lane_at l.lane l.stride) l.n l.bound l.lo l.hi

abbrev pub decreases-loop-lo : goal.decreases-loop-lo
decreases-loop-lo l = l.hi - l.lo
