-- The refusal of a call, by those of its tests, and what follows of an answer. Assumes nothing.
use mathlib.Core.Path.{◌≡◌, sym, ap, ◌∙◌}
use mathlib.Core.Bool.{Bool, true, false, false≢true}
use mathlib.Core.List.{[], ◌∷◌}
use Prim.Native.Nat.{ℕ}
use lib.Ieee.{Float}
use Rattle.fixed_point.specs.Refusals.{reading_refusal, weights_refusal, tolerance_refusal}
use Rattle.refusal.specs.Refusals.{number_of, first_of, given, numbered}
use Rattle.refusal.specs.declared.Refusal.{Refusal}
use Rattle.fixed_point.specs.Samples.{sample_of, weights_of}
use Rattle.fixed_point.specs.declared.Reading.{Reading}
use Rattle.fixed_point.specs.declared.Weights.{Weights}
use Rattle.refusal.proofs.RefusalLaws.{first-last, first_then, first-refused}
use Rattle.difference.specs.Ciede2000.{ciede2000_of}
use Rattle.difference.specs.Cie94.{cie94_of}
use Rattle.difference.specs.declared.cie94.Application.{Application}
use Rattle.difference.specs.declared.cie94.Comparison.{Comparison}
use Rattle.difference.specs.declared.cie94.Comparison.TheVariants.{WithoutStandard}
use Rattle.difference.proofs.Symmetry.{ciede2000-symmetric, cie94-symmetric}
use Rattle.difference.proofs.Zero.{ciede2000-equal}
use Rattle.measure.specs.Answers.{double_of, answer_of}
use Rattle.measure.specs.Calls.{pair_refusal, weighted_refusal, verdict_refusal}
use Rattle.std.specs.Prelude.{Result, Ok, Err}

-- ---- the refusals of two, three and four tests: each is the one before with a test more

pub pair_is : (s t : Reading) → first_of (reading_refusal s) (reading_refusal t) ≡ pair_refusal s t
unfolding pair_refusal
pair_is s t = ap (λ (n : ℕ). first_of n (reading_refusal t)) (sym (first-last _)) ∙ first_then (reading_refusal s ∷ []) _

pub weighted-is : (s t : Reading) (w : Weights) → first_of (pair_refusal s t) (weights_refusal w) ≡ weighted_refusal s t w
unfolding pair_refusal weighted_refusal
weighted-is s t w = first_then (reading_refusal s ∷ reading_refusal t ∷ []) _

pub verdict-is : (s t : Reading) (w : Weights) (x : Float)
    → first_of (weighted_refusal s t w) (tolerance_refusal x) ≡ verdict_refusal s t w x
unfolding weighted_refusal verdict_refusal
verdict-is s t w x = first_then (reading_refusal s ∷ reading_refusal t ∷ weights_refusal w ∷ []) _

-- ---- the first of two readings' refusals

pub first-sample : (s t : Reading) (e : Refusal) → number_of e ≡ reading_refusal s → pair_refusal s t ≡ number_of e
first-sample s t e h = sym (pair_is s t) ∙ first-refused e _ h

pub second-sample : (s t : Reading) (e : Refusal) → 0 ≡ reading_refusal s → number_of e ≡ reading_refusal t → pair_refusal s t ≡ number_of e
second-sample s t e z h = sym (pair_is s t) ∙ ap (λ (n : ℕ). first_of n (reading_refusal t)) (sym z) ∙ sym h

pub neither-sample : (s t : Reading) → 0 ≡ reading_refusal s → 0 ≡ reading_refusal t → pair_refusal s t ≡ 0
neither-sample s t z h = sym (pair_is s t) ∙ ap (λ (n : ℕ). first_of n (reading_refusal t)) (sym z) ∙ sym h

-- ---- what follows of an answer that is CIEDE2000's
abbrev Answers : Result Float Refusal → Reading → Reading → Weights → Type 0
Answers r s t w = numbered r ≡ answer_of (weighted_refusal s t w) (ciede2000_of (weights_of w) (sample_of s) (sample_of t))

abbrev is_ok : Result Float ℕ → Bool
is_ok (Ok d) = true
is_ok (Err k) = false

abbrev value-or : Result Float Refusal → Result Float ℕ → Result Float Refusal
value-or r (Ok d) = Ok d
value-or r (Err k) = r

value-is : (r : Result Float Refusal) {d : Float} → numbered r ≡ Ok d → r ≡ Ok d
value-is (Ok x) e = ap (value-or (Ok x)) e
value-is (Err k) e = absurd (false≢true (ap is_ok e))

-- it is the same with the samples exchanged, and zero for equal samples
pub with-laws : {r : Result Float Refusal} (s t : Reading) (w : Weights) → Answers r s t w
    → Answers r s t w × ((numbered r ≡ answer_of (weighted_refusal s t w) (ciede2000_of (weights_of w) (sample_of t) (sample_of s))) ×
    (weighted_refusal s t w ≡ 0 → sample_of s ≡ sample_of t → r ≡ Ok (double_of 0)))
unfolding given
with-laws {r} s t w e = (
  e,
  (
    e ∙ ap (λ (n : ℕ). answer_of (weighted_refusal s t w) n) (ciede2000-symmetric (weights_of w) (sample_of t) (sample_of s)),
    (λ k q. value-is r (e ∙ (λ i. answer_of (k i) (ciede2000_of (weights_of w) (sample_of s) (sym q i)))
        ∙ ap (λ (n : ℕ). answer_of 0 n) (ciede2000-equal (weights_of w) (sample_of s)))),
  ),
)

-- ---- what follows of an answer that is CIE94's
module _ (application : Application) (comparison : Comparison) (w : Weights) (s t : Reading) where
  abbrev cie94_in : Comparison → Reading → Reading → ℕ
  cie94_in c x y = cie94_of application c (weights_of w) (sample_of x) (sample_of y)

  abbrev Answers94 : Result Float ℕ → Reading → Reading → Type 0
  Answers94 r x y = r ≡ answer_of (weighted_refusal s t w) (cie94_in comparison x y)

  -- without a standard it is the same with the samples exchanged
  pub with-exchange : {r : Result Float ℕ} → Answers94 r s t → Answers94 r s t × (comparison ≡ WithoutStandard → Answers94 r t s)
  with-exchange e = (
    e,
    (λ without. e ∙ ap (λ (n : ℕ). answer_of (weighted_refusal s t w) n)
        (ap (λ (c : Comparison). cie94_in c s t) without ∙ cie94-symmetric application (weights_of w) (sample_of t) (sample_of s)
        ∙ ap (λ (c : Comparison). cie94_in c t s) (sym without))),
  )
