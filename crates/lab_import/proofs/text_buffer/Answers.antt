-- `lab_import::text_buffer` meets its contract.
use Rattle.std.proofs.Common.{ℕ}
use mathlib.Core.Path.{sym}
use lib.ListN.{length-replicate}
use Rattle.lab_import.proofs.text_buffer.Goals as goal

pub returns : goal.returns
returns c = sym (length-replicate {0} {A = ℕ} 1048576 0)
