-- `lab_text::fields::Words::place_of` meets its contract: the name is none of the first k words. Assumes nothing.
use mathlib.Core.Path.{◌≡◌}
use Prim.Native.Nat.{◌+◌}
use lib.ListN.{drop}
use Rattle.lab_text.specs.Fields.{place_of}
use Rattle.lab_text.specs.Inner.{texts}
use Rattle.lab_text.proofs.fields.Words.place_of.Given as goal

abbrev pub invariant-loop-k : goal.invariant-loop-k
invariant-loop-k l = l.k + place_of l.name (drop l.k (texts l.self.all)) ≡ place_of l.name (texts l.self.all)
