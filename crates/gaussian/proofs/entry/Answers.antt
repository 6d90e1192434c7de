-- `gaussian::entry` meets its contract: antt computes every entry from the series and compares it with the code's.
-- Assumes nothing.
use Rattle.gaussian.specs.Gaussian.{terms, exp_series, gaussian_entry}
use Rattle.gaussian.proofs.Ranges.{tabulated}
use Rattle.gaussian.proofs.entry.Goals as goal

pub returns : goal.returns
unfolding gaussian_entry exp_series terms
returns c = tabulated gaussian_entry 1201 _ c.requires
