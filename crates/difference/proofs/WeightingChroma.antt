-- The chroma that CIE94's weighting functions use without a standard, root(C1 × C2): the same either way round, between the
-- two chromas, each of them where they are equal, and 0 beside a grey.
-- Assumes nothing.
use mathlib.Core.Path.{◌≡◌, sym, ap, ◌∙◌}
use Prim.Native.Nat.{ℕ, ◌*◌, ◌≤◌}
use native.Mathlib.Nat.{mul_comm, mul-le-mul, le_refl, mul-zero}
use Rattle.isqrt.specs.Root.{root_of}
use Rattle.isqrt.proofs.RootLaws.{root-largest, root-le, root_of-square}
use Rattle.sample.specs.Sample.{Sample}
use Rattle.sample.specs.declared.FixedWeights.{FixedWeights}
use Rattle.difference.specs.Pair.{sample_chroma}
use Rattle.difference.specs.Cie94.{weighting_chroma, parts94_of, cie94_of}
use Rattle.difference.specs.declared.cie94.Application.{Application}
use Rattle.difference.specs.declared.cie94.Comparison.TheVariants.{WithStandard, WithoutStandard}

abbrev mean_chroma : ℕ → ℕ → ℕ
mean_chroma = weighting_chroma WithoutStandard

pub mean_chroma-exchanged : (c1 c2 : ℕ) → mean_chroma c2 c1 ≡ mean_chroma c1 c2
unfolding weighting_chroma
mean_chroma-exchanged c1 c2 = ap root_of (mul_comm c2 c1)

-- at least the lesser and at most the greater
pub mean_chroma-between : (c1 c2 : ℕ) → c1 ≤ c2 → (c1 ≤ mean_chroma c1 c2) × (mean_chroma c1 c2 ≤ c2)
unfolding weighting_chroma
mean_chroma-between c1 c2 h = (root-largest _ c1 (mul-le-mul (le_refl c1) h), root-le _ c2 (mul-le-mul h (le_refl c2)))

-- equal chromas: it is each of them, as with a standard
pub mean_chroma-same : (c1 c2 : ℕ) → c1 ≡ c2 → mean_chroma c1 c2 ≡ weighting_chroma WithStandard c1 c2
unfolding weighting_chroma
mean_chroma-same c1 c2 e = ap (λ (c : ℕ). root_of (c1 * c)) (sym e) ∙ root_of-square c1

pub mean_chroma-grey : (c : ℕ) → mean_chroma c 0 ≡ 0
unfolding weighting_chroma
mean_chroma-grey c = ap root_of (mul-zero c) ∙ root_of-square 0

-- samples of equal chroma: a standard makes no difference
pub cie94-equal-chroma : (application : Application) (w : FixedWeights) (s t : Sample) → sample_chroma s ≡ sample_chroma t
    → cie94_of application WithoutStandard w s t ≡ cie94_of application WithStandard w s t
unfolding cie94_of parts94_of
cie94-equal-chroma application w s t e = rw (mean_chroma-same (sample_chroma s) (sample_chroma t) e)
