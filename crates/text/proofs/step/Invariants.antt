-- `text::step` meets its contract. Assumes nothing.
use Rattle.text.specs.Stream.{state_held}
use Rattle.text.proofs.Streaming.{Going}
use Rattle.text.proofs.step.Given as goal

abbrev pub invariant-loop-read : goal.invariant-loop-read
invariant-loop-read l = Going (state_held l.initial.state) l.chunk l.initial.out l.out (state_held l.state) l.read l.written
