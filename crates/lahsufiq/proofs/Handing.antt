-- What is handed over of a verdict and of the figures, of what the calls promise. Assumes nothing.
use mathlib.Core.Path.{◌≡◌, refl, ap, ◌∙◌}
use mathlib.Core.Bool.{Bool, true, false}
use mathlib.Core.List.{List}
use Prim.Native.Nat.{ℕ, zero, suc}
use lib.Ieee.{of_bits, binary64}
use lib.IntN.{ℤ, pos}
use lib.ListN.{replicate}
use Rattle.std.specs.Prelude.{Result, Ok, Err}
use Rattle.std.specs.Result.{result_unwrap_or}
use Rattle.std.specs.Int.{from_bool}
use Rattle.refusal.specs.Refusals.{refused_with, numbered, given}
use Rattle.refusal.specs.declared.Refusal.{Refusal}
use Rattle.difference.specs.Ciede2000.{Figures}
use Rattle.difference.specs.Verdict.{within_tolerance}
use Rattle.measure.specs.Answers.{answer_of, refusal_of, yes_of, figures_given, figures_answer}
use Rattle.measure.specs.Judged.{verdict_given}
use Rattle.measure.specs.declared.Judgement.{Judgement}
use Rattle.lahsufiq.specs.Interface.{one_of, Hands}

module _ {A : Type 0} {answer : Result A ℕ} where
  number-as : (r : Result A Refusal) → numbered r ≡ answer → refused_with r ≡ refusal_of answer
  number-as (Ok x) e = ap refusal_of e
  number-as (Err k) e = ap refusal_of e

  value-as : (r : Result A Refusal) (d : A) → numbered r ≡ answer → result_unwrap_or r d ≡ result_unwrap_or answer d
  value-as (Ok x) d e = ap (λ (s : Result A ℕ). result_unwrap_or s d) e
  value-as (Err k) d e = ap (λ (s : Result A ℕ). result_unwrap_or s d) e

-- the judgement that a refusal hands over
abbrev none : Judgement
none = record { difference = of_bits binary64 0; within = false }

byte-is : (t : Bool) → from_bool t ≡ one_of t
byte-is true = refl
byte-is false = refl

pub hands_verdict : (r : Result Judgement Refusal) (refusal n tolerance : ℕ) {j : Judgement} → numbered r ≡ verdict_given refusal n tolerance
    → j ≡ result_unwrap_or r none
    → Hands (answer_of refusal n) (refused_with r) j.difference
    × (from_bool j.within ≡ one_of (yes_of refusal (within_tolerance n tolerance)))
unfolding of_bits given yes_of
hands_verdict r zero n t e is =
    let v = is ∙ value-as r none e in
    (record { refusal = number-as r e; difference = ap (λ (j : Judgement). j.difference) v }, byte-is _ ∙ ap (λ (j : Judgement). one_of j.within) v)
hands_verdict r (suc k) n t e is =
    let v = is ∙ value-as r none e in
    (record { refusal = number-as r e; difference = ap (λ (j : Judgement). j.difference) v }, byte-is _ ∙ ap (λ (j : Judgement). one_of j.within) v)

pub hands_figures : (r : Result (List ℤ) Refusal) (refusal : ℕ) (f : Figures) → numbered r ≡ figures_given refusal f
    → (refused_with r ≡ refusal) × (result_unwrap_or r (replicate 23 (pos 0)) ≡ figures_answer refusal f)
unfolding given figures_answer
hands_figures r zero f e = (number-as r e, value-as r _ e)
hands_figures r (suc k) f e = (number-as r e, value-as r _ e)
