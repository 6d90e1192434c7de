-- `deck_file::count_in` meets its contract. Assumes nothing.
use native.Mathlib.Omega.{arith}
use Rattle.deck_file.specs.Layout.{count_in}
use Rattle.deck_file.proofs.count_in.Goals as goal

pub returns : goal.returns
unfolding count_in
returns c = (c.u16_at.ensures, omega arith)
