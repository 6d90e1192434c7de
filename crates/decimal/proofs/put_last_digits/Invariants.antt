-- `decimal::put_last_digits` meets its contract. Assumes nothing.
use mathlib.Core.Path.{◌≡◌}
use lib.Seq.{sets}
use Rattle.decimal.specs.Writing.{last_digits}
use Rattle.decimal.proofs.put_last_digits.Given as goal

abbrev pub invariant-loop-i : goal.invariant-loop-i
invariant-loop-i l = sets l.out l.at (last_digits l.i l.rest) ≡ sets l.initial.out l.at (last_digits l.count l.n)
