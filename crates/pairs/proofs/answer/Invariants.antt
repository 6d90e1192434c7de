-- The first `from` bytes of the piece are answered.
use Rattle.std.proofs.Common.{◌≡◌, ◌-◌, ◌≤◌, length, take}
use Rattle.std.specs.Io.KnownBytes.{Appends}
use Rattle.text.specs.Stream.{held_after, held_text, state_held}
use Rattle.pairs.proofs.answer.Given as goal

abbrev pub invariant-loop-from : goal.invariant-loop-from
invariant-loop-from g l =
    (l.from ≤ length l.chunk) × (state_held l.state ≡ held_after (state_held l.initial.state) (take l.from l.chunk))
    × Appends (g.W.Write.contents l.initial.output) (g.W.Write.contents l.output) (held_text (state_held l.initial.state) (take l.from l.chunk))

abbrev pub decreases-loop-from : goal.decreases-loop-from
decreases-loop-from g l = length l.chunk - l.from
