-- The columns keep their lengths.
use Rattle.std.proofs.Common.{◌≡◌, length}
use Rattle.deck_search.proofs.generate.Given as goal

abbrev pub invariant-loop-k : goal.invariant-loop-k
invariant-loop-k l = (length l.l ≡ 300) × ((length l.a ≡ 300) × (length l.b ≡ 300))
