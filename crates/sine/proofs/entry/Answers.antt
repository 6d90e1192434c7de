-- `sine::entry` meets its contract: the table of the code is the computed one, entry by entry.
-- Assumes nothing.
use mathlib.Core.Path.{refl}
use Rattle.sine.specs.Sine.{unit, pi, alternating, series, sine_entry}
use Rattle.sine.proofs.Tabulate.{tabulate}
use Rattle.sine.proofs.Results.{table-entry, entry_of}
use Rattle.sine.proofs.entry.Goals as goal

pub returns : goal.returns
unfolding unit pi alternating series sine_entry tabulate
returns c = entry_of c.requires.k_bound (table-entry _ refl _ c.requires.k_bound)
