-- The verdict: the difference and a yes or no together. Assumes nothing.
use Rattle.std.specs.Prelude.{ℕ, Result}
use Rattle.refusal.specs.Refusals.{given}
use Rattle.measure.specs.Answers.{double_of}
use Rattle.difference.specs.Verdict.{within_tolerance}
use Rattle.measure.specs.declared.Judgement.{Judgement}

-- the verdict on a difference in millionths and a tolerance in 1/10,000, or the refusal's number
abbrev pub verdict_given : ℕ → ℕ → ℕ → Result Judgement ℕ
verdict_given refusal millionths tolerance =
    given refusal (record { difference = double_of millionths; within = within_tolerance millionths tolerance })
