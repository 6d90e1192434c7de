-- `weighting::cosine_term` meets its contract: the cosine is at most 10^9, so its k hundredths are at most 10^7 k. Assumes nothing.
use native.Mathlib.Omega.{arith}
use Rattle.weighting.specs.Weighting.{term_of}
use Rattle.weighting.proofs.WeightingLaws.{hundredths-le}
use Rattle.weighting.proofs.cosine_term.Goals as goal

pub returns : goal.returns
unfolding term_of
returns c = record { is = cc; size = omega (arith, hundredths-le c.args.k c.cosine.result.n c.cosine.ensures.size) }
