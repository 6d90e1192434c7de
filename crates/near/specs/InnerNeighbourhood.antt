-- What the code's struct stands for. Assumes nothing.
use Rattle.std.specs.Prelude.{◌≡◌, ℕ, max}
use Rattle.sample.specs.Sample.{Sample}
use Rattle.sample.specs.Inner.{lab_of}
use Rattle.sample.specs.declared.FixedWeights.{FixedWeights}
use Rattle.near.specs.declared.Neighbourhood.{Neighbourhood}

-- the neighbourhood of the reading t at the tolerance τ
pub record IsNeighbourhood (w : FixedWeights) (τ : ℕ) (t : Sample) (n : Neighbourhood) : Type 0 where
  pub reading : lab_of n.reading ≡ t
  pub tolerance : n.tolerance ≡ τ
  pub kl : n.kl ≡ w.l
  pub k : n.k ≡ max w.c w.h
