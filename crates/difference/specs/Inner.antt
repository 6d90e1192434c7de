-- What the code's structs stand for, and the bounds that its functions ask of them.
use Rattle.std.specs.Prelude.{◌≡◌, false, ℕ, ◌+◌, ◌*◌, ◌^◌, ◌≤◌, ◌<◌}
use Rattle.signed.specs.Inner.{int}
use Rattle.signed.specs.declared.Int.{Int}
use Rattle.sample.specs.Sample.{Sample}
use Rattle.hue.specs.Hue.{grey}
use Rattle.hue_difference.specs.Inner.{Primed}
use Rattle.difference.specs.Parts.{Parts, squared}
use Rattle.difference.specs.Pair.{Point, pair_ratio, primed_of, point_hue, pair_far, pair_hue_difference}
use Rattle.difference.specs.Pair.{pair_mean_hue}
use Rattle.difference.specs.Ciede2000.{Figures}
use Rattle.difference.specs.declared.prepared.Prepared.{Prepared}
use Rattle.chroma.specs.declared.Coordinates.{Coordinates}
use Rattle.difference.specs.declared.parts.SignedParts.{SignedParts}
use Rattle.difference.specs.declared.ciede2000.Hues.{Hues}
use Rattle.difference.specs.declared.ciede2000.Points.{Points}
use Rattle.difference.specs.declared.ciede2000.Finished.{Finished}
use Rattle.difference.specs.declared.ciede2000.Intermediates.{Intermediates}

unfoldable pub prepared_sample : Prepared → Sample
prepared_sample p = record { l = p.l; a = int p.ab.a; b = int p.ab.b }

unfoldable pub point_of : Coordinates → Point
point_of p = record { a = int p.a; b = int p.b; c = p.chroma }

unfoldable pub signed_parts : SignedParts → Parts
signed_parts p = record { l = int p.l; c = int p.c; h = int p.h }

-- the sizes that a point of an accepted sample can have
abbrev pub CoordinatesIn : Coordinates → Type 0
CoordinatesIn p = Primed p.a.n p.b.n p.chroma

-- and far from grey where the sample is not grey
pub record Coloured (s : Sample) (p : Coordinates) : Type 0 where
  pub bounded : CoordinatesIn p
  pub coloured : grey s.a s.b ≡ false → 1000 ≤ p.chroma

-- p is the point x of the sample s
pub record IsPoint (s : Sample) (x : Point) (p : Coordinates) : Type 0 where
  pub is : point_of p ≡ x
  pub coloured : Coloured s p

-- steps 5 to 8 of the samples s and t, whose points are x and y
pub record HueFigures (s t : Sample) (x y : Point) (r : Hues) : Type 0 where
  pub h1 : r.h1 ≡ point_hue x
  pub h2 : r.h2 ≡ point_hue y
  pub far : r.far ≡ pair_far s t
  pub difference : int r.difference ≡ pair_hue_difference s t x y
  pub difference_size : r.difference.n ≤ 4615105632
  pub mean : r.mean ≡ pair_mean_hue s t x y
  pub mean_size : r.mean < 720000000

-- steps 2 and 3 of the samples s and t
pub record IsPoints (s t : Sample) (x : Points) : Type 0 where
  pub z : x.z ≡ pair_ratio s t
  pub p : IsPoint s (primed_of (pair_ratio s t) s) x.p
  pub q : IsPoint t (primed_of (pair_ratio s t) t) x.q

-- the sizes that the parts of an accepted pair can have
pub record SignedPartsIn (p : SignedParts) : Type 0 where
  pub l : p.l.n ≤ 200000000
  pub c : p.c.n ≤ 461510564
  pub h : p.h.n ≤ 923021127

pub record IsParts (x : Parts) (p : SignedParts) : Type 0 where
  pub is : signed_parts p ≡ x
  pub small : SignedPartsIn p

-- r is the chroma x, within the bound of every accepted sample's
pub record IsChroma (x r : ℕ) : Type 0 where
  pub is : r ≡ x
  pub high : r ≤ 1810193359

-- r is the weighting function x, within the bounds that every one of them has
pub record Weight (x r : ℕ) : Type 0 where
  pub is : r ≡ x
  pub low : 1000000000 ≤ r
  pub high : r ≤ 11400000000

-- d is the difference x, of at most 1,400: a double holds the millionths exactly
pub record Millionths (x d : ℕ) : Type 0 where
  pub is : d ≡ x
  pub small : d ≤ 1400000000

-- the sum of three squares
pub record Squares (x y z : Int) (r : ℕ) : Type 0 where
  pub is : r ≡ squared (int x) + squared (int y) + squared (int z)
  pub size : r ≡ x.n * x.n + y.n * y.n + z.n * z.n

unfoldable pub intermediate_figures : Intermediates → Figures
intermediate_figures r =
    record {
      c1 = r.c1;
      p1 = point_of r.p1;
      h1 = r.hues.h1;
      c2 = r.c2;
      p2 = point_of r.p2;
      h2 = r.hues.h2;
      z = r.z;
      far = r.hues.far;
      hue_difference = int r.hues.difference;
      mean = r.hues.mean;
      terms = r.terms;
      parts = signed_parts r.parts;
      difference = r.difference;
    }

-- r is steps 9 to 12 of the working f
pub record IsFinished (f : Figures) (r : Finished) : Type 0 where
  pub terms : r.terms ≡ f.terms
  pub parts : signed_parts r.parts ≡ f.parts
  pub difference : r.difference ≡ f.difference
  pub parts_in : SignedPartsIn r.parts
  pub small : r.difference ≤ 1400000000

-- r is what the working of f says, with the sizes that its signed numbers can have
pub record IsFigures (f : Figures) (r : Intermediates) : Type 0 where
  pub is : intermediate_figures r ≡ f
  pub p1 : CoordinatesIn r.p1
  pub p2 : CoordinatesIn r.p2
  pub hues : r.hues.difference.n ≤ 4615105632
  pub parts : SignedPartsIn r.parts
  pub difference : r.difference ≤ 1400000000

-- the figures that are never negative fit 63 bits
pub record FiguresIn (f : Figures) : Type 0 where
  pub c1 : f.c1 < 2 ^ 63
  pub cp1 : f.p1.c < 2 ^ 63
  pub h1 : f.h1 < 2 ^ 63
  pub c2 : f.c2 < 2 ^ 63
  pub cp2 : f.p2.c < 2 ^ 63
  pub h2 : f.h2 < 2 ^ 63
  pub z : f.z < 2 ^ 63
  pub mean : f.mean < 2 ^ 63
  pub t : f.terms.t < 2 ^ 63
  pub sl : f.terms.sl < 2 ^ 63
  pub sc : f.terms.sc < 2 ^ 63
  pub sh : f.terms.sh < 2 ^ 63
  pub r : f.terms.r < 2 ^ 63
