-- `hue_difference::later` meets its contract. Assumes nothing.
use Rattle.hue.proofs.Numbers.{tag-number}
use Rattle.hue_difference.specs.HueDifference.{later_in}
use Rattle.hue_difference.proofs.later.Goals as goal

pub returns : goal.returns
unfolding later_in
returns c = rw (c.eq.ensures, tag-number c.args.p, tag-number c.args.q)
