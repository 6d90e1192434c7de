-- The bytes read so far, whatever they are, are answered: the state is theirs, and what they write is written.
use Rattle.std.proofs.Common.{◌≡◌, ℕ, List}
use Rattle.std.specs.Io.KnownBytes.{Appends, Consumes}
use Rattle.text.specs.Stream.{state_held, state_of, text_so_far}
use Rattle.pairs.proofs.answer_all.Given as goal

abbrev pub invariant-loop : goal.invariant-loop
invariant-loop g l =
    (read : List ℕ) × Consumes (g.R.Read.remaining l.fn.input) (g.R.Read.remaining l.input) read
    × Appends (g.W.Write.contents l.fn.output) (g.W.Write.contents l.output) (text_so_far read)
    × (state_held l.state ≡ state_of read)
