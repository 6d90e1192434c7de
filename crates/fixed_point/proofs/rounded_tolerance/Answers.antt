-- `fixed_point::rounded_tolerance` meets its contract. Assumes nothing.
use Rattle.std.proofs.Common.{sym, subst, ℕ, ◌≤◌}
use Rattle.fixed_point.proofs.FixedLaws.{tolerance-le}
use Rattle.fixed_point.proofs.rounded_tolerance.Goals as goal

pub returns-clause-within : goal.returns-clause-within
returns-clause-within c = subst (λ (n : ℕ). n ≤ 1000000) (sym c.fixed_tolerance.ensures) (tolerance-le _ (sym c.in_ok-check_tolerance.ensures))
