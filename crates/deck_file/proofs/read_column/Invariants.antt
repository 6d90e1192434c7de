-- `deck_file::read_column` meets its contract: the first k numbers are read, and the rest is as it was. Assumes nothing.
use mathlib.Core.Path.{◌≡◌}
use mathlib.Core.List.{◌++◌}
use lib.ListN.{drop}
use Rattle.places.specs.Places.{column_of}
use Rattle.deck_file.specs.Inner.{column_in}
use Rattle.deck_file.proofs.read_column.Given as goal

abbrev pub invariant-loop-k : goal.invariant-loop-k
invariant-loop-k l = l.column ≡ column_of (column_in l.file l.first) l.k ++ drop l.k l.initial.column
