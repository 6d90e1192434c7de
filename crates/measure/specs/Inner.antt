-- What the inner functions' contracts cite: a pair as the working takes it, and weights that are rounded once for many pairs.
use Rattle.std.specs.Prelude.{◌≡◌, ℕ, List, Float, Result, Ok, Err}
use Rattle.refusal.specs.Refusals.{number_of, first_of}
use Rattle.refusal.specs.declared.Refusal.{Refusal}
use Rattle.sample.specs.Inner.{WeightsIn}
use Rattle.sample.specs.declared.FixedWeights.{FixedWeights}
use Rattle.fixed_point.specs.Samples.{sample_of}
use Rattle.difference.specs.Ciede2000.{ciede2000_of}
use Rattle.difference.specs.Inner.{prepared_sample}
use Rattle.fixed_point.specs.declared.Reading.{Reading}
use Rattle.measure.specs.Answers.{double_of, answer_of}
use Rattle.measure.specs.Calls.{pair_refusal}
use Rattle.measure.specs.Many.{reading_at}
use Rattle.measure.specs.declared.Accepted.{Accepted}

-- x is the readings s and t and the weights w
pub record IsAccepted (s t : Reading) (w : FixedWeights) (x : Accepted) : Type 0 where
  pub first : prepared_sample x.s ≡ sample_of s
  pub second : prepared_sample x.t ≡ sample_of t
  pub weights : x.w ≡ w
  pub weights_in : WeightsIn x.w

-- CIEDE2000 of an accepted pair, or its refusal
abbrev pub accepted_answer : Result Accepted Refusal → Result Float ℕ
accepted_answer (Ok x) = Ok (double_of (ciede2000_of x.w (prepared_sample x.s) (prepared_sample x.t)))
accepted_answer (Err e) = Err (number_of e)

-- a pair's answer, from the rounded weights or their refusal
abbrev pub rounded_answer : Result FixedWeights Refusal → Reading → Reading → Result Float ℕ
rounded_answer (Ok w) s t = answer_of (pair_refusal s t) (ciede2000_of w (sample_of s) (sample_of t))
rounded_answer (Err e) s t = answer_of (first_of (pair_refusal s t) (number_of e)) 0

-- so for pair k of two lists of colours
unfoldable pub rounded_pair : Result FixedWeights Refusal → List Float → List Float → ℕ → Result Float ℕ
rounded_pair w standards samples k = rounded_answer w (reading_at standards k) (reading_at samples k)
