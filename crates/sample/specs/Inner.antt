-- What the code's structs stand for, and the limits as the bounds that inner functions ask for.
use Rattle.std.specs.Prelude.{ℕ, ◌≤◌, ℤ, nat_abs}
use Rattle.signed.specs.Inner.{int}
use Rattle.sample.specs.Sample.{Sample, Colour}
use Rattle.sample.specs.declared.Lab.{Lab}
use Rattle.sample.specs.declared.FixedColour.{FixedColour}
use Rattle.sample.specs.declared.FixedWeights.{FixedWeights}

unfoldable pub lab_of : Lab → Sample
lab_of s = record { l = s.l; a = int s.a; b = int s.b }

abbrev pub colour : ℤ → ℤ → ℤ → Colour
colour l a b = record { l = l; a = a; b = b }

abbrev pub colour_of : FixedColour → Colour
colour_of c = record { l = c.l; a = c.a; b = c.b }

pub record SampleIn (s : Sample) : Type 0 where
  pub l : s.l ≤ 1000000
  pub a : nat_abs s.a ≤ 1280000
  pub b : nat_abs s.b ≤ 1280000

-- a weight from 0.5 to 10
pub record WeightIn (k : ℕ) : Type 0 where
  pub low : 5000 ≤ k
  pub high : k ≤ 100000

pub record WeightsIn (w : FixedWeights) : Type 0 where
  pub l : WeightIn w.l
  pub c : WeightIn w.c
  pub h : WeightIn w.h
