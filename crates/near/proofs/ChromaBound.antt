-- A bound of C1' + C2' that needs no root. Assumes nothing.
use mathlib.Core.Path.{◌≡◌, refl}
use mathlib.Core.Bool.{Bool, true, false}
use Prim.Native.Nat.{ℕ, ◌+◌, ◌*◌, ◌≤◌, max}
use native.Mathlib.Nat.{le_trans, mul-le-mul_right, le-max_left, le-max_right, add-le-add}
use native.Mathlib.Decide.{dec_le}
use native.Mathlib.Omega.{arith}
use borrow.Author.Tests.{ltb-true}
use lib.IntN.{nat_abs}
use Rattle.isqrt.specs.Root.{root_of}
use Rattle.isqrt.proofs.RootLaws.{root-le, root-largest}
use Rattle.signed.proofs.Squares.{square_le}
use Rattle.sample.specs.Sample.{Sample}
use Rattle.chroma.specs.Chroma.{sum_of_squares, chroma_of, ratio_of, primed_a, in_ten_millionths, primed_chroma}
use Rattle.chroma.proofs.ChromaLaws.{ratio-large, primed_a-most, primed_a-most-large, in_ten_millionths-size}
use Rattle.difference.specs.Pair.{sample_chroma, pair_ratio, primed_of}
use Rattle.near.specs.Inner.{extent, saturated, half_factor, chroma_most, chromas_most}

-- u = 2 m and v = 2 n: root(u² + v²) is at most the larger of u + n and v + m
longer : (a b m n : ℕ) → a ≤ 2 * m → b ≤ 2 * n → a * a + b * b ≤ max (2 * m + n) (m + 2 * n) * max (2 * m + n) (m + 2 * n)
longer a b m n h k = by_order (dec_le n m)
  where
    by_order : Dec (n ≤ m) → a * a + b * b ≤ max (2 * m + n) (m + 2 * n) * max (2 * m + n) (m + 2 * n)
    by_order (yes l) =
        let e : a * a + b * b ≤ (2 * m + n) * (2 * m + n) = omega (arith, square_le h, square_le k, mul-le-mul_right n l) in
        le_trans e (square_le (le-max_left (2 * m + n) (m + 2 * n)))
    by_order (no f) =
        let l : m ≤ n = omega (arith, f) in
        let e : a * a + b * b ≤ (m + 2 * n) * (m + 2 * n) = omega (arith, square_le h, square_le k, mul-le-mul_right m l) in
        le_trans e (square_le (le-max_right (2 * m + n) (m + 2 * n)))

chroma-most : (s : Sample) (z f : ℕ) → nat_abs (primed_a s.a z) ≤ 2 * (f * nat_abs s.a) → (primed_of z s).c ≤ chroma_most f s
unfolding primed_of chroma_most primed_chroma sum_of_squares
chroma-most s z f a =
    let b : nat_abs (in_ten_millionths s.b) ≤ 2 * (500 * nat_abs s.b) = omega (arith, in_ten_millionths-size s.b) in
    root-le _ _ (longer _ _ (f * nat_abs s.a) (500 * nat_abs s.b) a b)

extent-le : (s : Sample) → 1000 * extent s ≤ sample_chroma s
unfolding extent sample_chroma chroma_of sum_of_squares
extent-le s =
    let x : ℕ = nat_abs s.a in
    let y : ℕ = nat_abs s.b in
    let n : ℕ = 1000000 * (x * x + y * y) in
    let a : 1000 * x ≤ root_of n = root-largest n (1000 * x) (omega arith) in
    let b : 1000 * y ≤ root_of n = root-largest n (1000 * y) (omega arith) in
    omega (arith, a, b)

module _ (s t : Sample) where
  abbrev ratio : ℕ
  ratio = ratio_of (sample_chroma s + sample_chroma t)

  of-saturated : saturated s t ≡ true
      → (primed_of ratio s).c + (primed_of ratio t).c ≤ chroma_most (half_factor true) s + chroma_most (half_factor true) t
  unfolding saturated half_factor
  of-saturated e =
      let r : 707106780 ≤ ratio = ratio-large (sample_chroma s + sample_chroma t) (omega (arith, ltb-true, extent-le s, extent-le t)) in
      let a1 : nat_abs (primed_a s.a ratio) ≤ 2 * (574 * nat_abs s.a) = omega (arith, primed_a-most-large s.a ratio r) in
      let a2 : nat_abs (primed_a t.a ratio) ≤ 2 * (574 * nat_abs t.a) = omega (arith, primed_a-most-large t.a ratio r) in
      add-le-add (chroma-most s ratio 574 a1) (chroma-most t ratio 574 a2)

  of-any : (primed_of ratio s).c + (primed_of ratio t).c ≤ chroma_most (half_factor false) s + chroma_most (half_factor false) t
  unfolding half_factor
  of-any =
      let a1 : nat_abs (primed_a s.a ratio) ≤ 2 * (750 * nat_abs s.a) = omega (arith, primed_a-most s.a ratio) in
      let a2 : nat_abs (primed_a t.a ratio) ≤ 2 * (750 * nat_abs t.a) = omega (arith, primed_a-most t.a ratio) in
      add-le-add (chroma-most s ratio 750 a1) (chroma-most t ratio 750 a2)

pub chromas-most : (s t : Sample) → (primed_of (pair_ratio s t) s).c + (primed_of (pair_ratio s t) t).c ≤ chromas_most s t
unfolding chromas_most pair_ratio
chromas-most s t = by-test (saturated s t) refl
  where
    by-test : (b : Bool) → saturated s t ≡ b
        → (primed_of (ratio_of (sample_chroma s + sample_chroma t)) s).c + (primed_of (ratio_of (sample_chroma s + sample_chroma t)) t).c
        ≤ chroma_most (half_factor b) s + chroma_most (half_factor b) t
    by-test true e = of-saturated s t e
    by-test false e = of-any s t
