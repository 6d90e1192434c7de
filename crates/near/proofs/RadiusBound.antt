-- The radius of a pair: where its chroma and hue parts are within a tolerance, da² + db² is at most the square of the radius.
-- Assumes nothing.
use mathlib.Core.Path.{◌≡◌, refl, sym}
use Prim.Native.Nat.{ℕ, ◌+◌, ◌-◌, ◌*◌, ◌/◌, ◌≤◌, ◌<◌}
use native.Mathlib.Nat.{le_trans, mul-le-mul, mul-le-mul_left, mul-le-mul_right, lt-div-mul-add, le_of_mul-le-mul_left}
use native.Mathlib.Decide.{dec_le}
use native.Mathlib.Omega.{arith}
use lib.Dec.{lit<}
use lib.IntN.{nat_abs}
use Rattle.signed.proofs.Squares.{square_le, product_le}
use Rattle.sample.specs.Sample.{Sample}
use Rattle.sample.specs.Inner.{SampleIn, WeightsIn}
use Rattle.sample.specs.declared.FixedWeights.{FixedWeights}
use Rattle.chroma.proofs.ChromaLaws.{ratio-le, primed_a-le, in_ten_millionths-le, primed_chroma-le}
use Rattle.chroma.proofs.Spread.{primed_a-spread, in_ten_millionths-spread}
use Rattle.weighting.specs.Weighting.{hue_term, chroma_weight, hue_weight}
use Rattle.weighting.proofs.WeightingLaws.{hue_term-le, chroma_weight-ge, hue_weight-ge, hue_weight-below}
use Rattle.difference.specs.Parts.{weighted, parts_of, squared}
use Rattle.difference.specs.Pair.{Point, pair_ratio, primed_of, pair_hue_difference, pair_mean_hue, terms_of, chroma_difference}
use Rattle.difference.specs.Ciede2000.{terms00_of, parts00_of, figures_from, figures_of}
use Rattle.difference.proofs.LightnessBound.{part-size}
use Rattle.near.specs.Inner.{parts_most, allowance, weight_most, radius_of, distance_square}
use Rattle.near.proofs.PairChord.{pair-chord}

-- ---- plain numbers

-- d × 10^8 / W, with W = k S / 10^4
part-reach : (d k sw : ℕ) → 5000 ≤ k → 1000000000 ≤ sw → 1000000000000 * d ≤ (d * 100000000 / (k * sw / 10000) + 1) * (k * sw)
part-reach d k sw l m =
    let w : ℕ = k * sw / 10000 in
    let q : ℕ = d * 100000000 / w in
    let some : 0 < w = omega (arith, mul-le-mul l m) in
    let under : d * 100000000 < q * w + w = lt-div-mul-add some in
    let down : 10000 * w ≤ k * sw = omega arith in
    from-facts w q (k * sw) under (mul-le-mul_left (q + 1) down)
  where
    from-facts : (w q n : ℕ) → d * 100000000 < q * w + w → (q + 1) * (10000 * w) ≤ (q + 1) * n → 1000000000000 * d ≤ (q + 1) * n
    from-facts w q n a b = omega arith

-- the parts c and h, from 16 (c² + h²) < 121 (100 τ + 1)²
parts-most : (c h τ m : ℕ) → 16 * (c * c + h * h) < 121 * ((100 * τ + 1) * (100 * τ + 1)) → 11 * (100 * τ + 1) + 12 ≤ 4 * m
    → (c + 2) * (c + 2) + (h + 2) * (h + 2) ≤ m * m
parts-most c h τ m a b =
    let e : m - 3 + 3 ≡ m = omega arith in
    let f : 11 * (100 * τ + 1) ≤ 4 * (m - 3) = omega arith in
    rw e at (of-bound (m - 3) (of-squares (m - 3) f))
  where
    of-squares : (n : ℕ) → 11 * (100 * τ + 1) ≤ 4 * n → c * c + h * h ≤ n * n
    of-squares n f = omega (arith, square_le f)

    sum-le : (m : ℕ) → c * c + h * h ≤ m * m → 2 * (c + h) ≤ 3 * m
    sum-le m k = either (dec_le (2 * (c + h)) (3 * m))
      where
        either : Dec (2 * (c + h) ≤ 3 * m) → 2 * (c + h) ≤ 3 * m
        either (yes g) = g
        either (no f) =
            let o : 3 * m + 1 ≤ 2 * (c + h) = omega (arith, f) in
            absurd (omega (arith, k, square_le o, product_le c h))

    of-bound : (m : ℕ) → c * c + h * h ≤ m * m → (c + 2) * (c + 2) + (h + 2) * (h + 2) ≤ (m + 3) * (m + 3)
    of-bound m k = omega (arith, k, sum-le m k)

-- x and y are each at most their part of M Y / E
squares-most : (e x y c h m n r : ℕ) → 0 < e → e * x ≤ c * n → e * y ≤ h * n → c * c + h * h ≤ m * m → m * n ≤ e * r
    → x * x + y * y ≤ r * r
squares-most e x y c h m n r some a b k l =
    let f1 : e * x * (e * x) ≤ c * n * (c * n) = square_le a in
    let f2 : e * y * (e * y) ≤ h * n * (h * n) = square_le b in
    let f3 : (c * c + h * h) * (n * n) ≤ m * m * (n * n) = mul-le-mul_right (n * n) k in
    let f4 : m * n * (m * n) ≤ e * r * (e * r) = square_le l in
    let all : e * e * (x * x + y * y) ≤ e * e * (r * r) = omega (arith, f1, f2, f3, f4) in
    le_of_mul-le-mul_left all (mul-le-mul some some)

-- M k S is at most 10^15 ρ
scale : (m k sw v u : ℕ) → m * k / 10000 + 1 ≡ v → sw ≤ 1000000 * u → m * (k * sw) ≤ 1000000000000 * (1000 * (v * u / 100000 + 1))
scale m k sw v u e h =
    let a : m * k ≤ 10000 * v = omega arith in
    let b : m * k * sw ≤ 10000 * v * (1000000 * u) = mul-le-mul a h in
    let c : v * u ≤ 100000 * (v * u / 100000 + 1) = omega arith in
    omega (arith, b, c)

-- what the roots drop
slack : (d r : ℕ) (x s : ℕ) → 1000000 * d ≤ x + 3 * s → x ≤ 1000 * (r + 1) * (1000 * (r + 1)) → s ≤ 4615105632 → d ≤ (r + 119) * (r + 119)
slack d r x s a b c = omega arith

-- ---- the bounds of the parts and of the weights

parts-enough : (τ : ℕ) → 11 * (100 * τ + 1) + 12 ≤ 4 * parts_most τ
unfolding parts_most
parts-enough τ = omega arith

chroma_weight-most : (s n : ℕ) → s ≤ n → chroma_weight s ≤ 1000000 * weight_most n
unfolding chroma_weight weight_most
chroma_weight-most s n h = omega arith

-- ---- a pair

primed-c-le : (z : ℕ) (s : Sample) → SampleIn s → (primed_of z s).c ≤ 2307552816
unfolding primed_of
primed-c-le z s h = primed_chroma-le _ _ (primed_a-le s.a z h.a) (in_ten_millionths-le s.b h.b)

module _ (w : FixedWeights) (s t : Sample) (hs : SampleIn s) (ht : SampleIn t) (v : WeightsIn w) where
  abbrev z : ℕ
  z = pair_ratio s t

  abbrev p : Point
  p = primed_of z s

  abbrev q : Point
  q = primed_of z t

  abbrev sum : ℕ
  sum = p.c + q.c

  abbrev term : ℕ
  term = hue_term (pair_mean_hue s t p q)

  abbrev chroma : ℕ
  chroma = nat_abs (chroma_difference p q)

  abbrev hue : ℕ
  hue = nat_abs (pair_hue_difference s t p q)

  z-le : z ≤ 1000000000
  unfolding pair_ratio
  z-le = ratio-le _

  chroma-part : nat_abs (figures_of w s t).parts.c ≡ chroma * 100000000 / (w.c * chroma_weight sum / 10000)
  unfolding figures_of figures_from parts00_of parts_of terms00_of terms_of weighted
  chroma-part = part-size (chroma_difference p q) 100000000 _

  hue-part : nat_abs (figures_of w s t).parts.h ≡ hue * 100000000 / (w.h * hue_weight sum term / 10000)
  unfolding figures_of figures_from parts00_of parts_of terms00_of terms_of weighted
  hue-part = part-size (pair_hue_difference s t p q) 100000000 _

  -- 10^6 (da² + db²) is at most dC'² + (|H| + 2)² + 3 (C1' + C2')
  distance-chord : 1000000 * distance_square s t ≤ chroma * chroma + (hue + 2) * (hue + 2) + 3 * sum
  unfolding distance_square squared
  distance-chord =
      omega (arith, pair-chord s t z z-le, square_le (primed_a-spread s.a t.a z z-le), square_le (in_ten_millionths-spread s.b t.b))

  module _ (τ k n : ℕ) (kc : w.c ≤ k) (kh : w.h ≤ k) (most : sum ≤ n)
      (within : 16 * (squared (figures_of w s t).parts.c + squared (figures_of w s t).parts.h) < 121 * ((100 * τ + 1) * (100 * τ + 1))) where
    abbrev c : ℕ
    c = nat_abs (figures_of w s t).parts.c

    abbrev h : ℕ
    h = nat_abs (figures_of w s t).parts.h

    abbrev y : ℕ
    y = k * chroma_weight sum

    parts-squares : (c + 2) * (c + 2) + (h + 2) * (h + 2) ≤ parts_most τ * parts_most τ
    unfolding squared
    parts-squares = parts-most c h τ (parts_most τ) within (parts-enough τ)

    y-large : 5000000000000 ≤ y
    y-large = let l : 5000 ≤ k = omega (arith, v.c.low) in mul-le-mul l (chroma_weight-ge sum)

    chroma-reach : 1000000000000 * chroma ≤ (c + 2) * y
    chroma-reach =
        let a : 1000000000000 * chroma ≤ (chroma * 100000000 / (w.c * chroma_weight sum / 10000) + 1) * (w.c * chroma_weight sum) =
        part-reach chroma w.c (chroma_weight sum) v.c.low (chroma_weight-ge sum) in
        let b : 1000000000000 * chroma ≤ (c + 1) * (w.c * chroma_weight sum) = rw (sym chroma-part) at a in
        let e : w.c * chroma_weight sum ≤ y = mul-le-mul_right (chroma_weight sum) kc in
        let f : (c + 1) * (w.c * chroma_weight sum) ≤ (c + 2) * y = mul-le-mul (omega arith) e in
        le_trans b f

    hue-reach : 1000000000000 * (hue + 2) ≤ (h + 2) * y
    hue-reach =
        let a : 1000000000000 * hue ≤ (hue * 100000000 / (w.h * hue_weight sum term / 10000) + 1) * (w.h * hue_weight sum term) =
        part-reach hue w.h (hue_weight sum term) v.h.low (hue_weight-ge sum term) in
        let b : 1000000000000 * hue ≤ (h + 1) * (w.h * hue_weight sum term) = rw (sym hue-part) at a in
        let e : w.h * hue_weight sum term ≤ y = mul-le-mul kh (hue_weight-below sum term (hue_term-le _)) in
        let f : (h + 1) * (w.h * hue_weight sum term) ≤ (h + 1) * y = mul-le-mul_left (h + 1) e in
        together y h _ b f y-large
      where
        together : (u m x : ℕ) → 1000000000000 * hue ≤ x → x ≤ (m + 1) * u → 5000000000000 ≤ u → 1000000000000 * (hue + 2) ≤ (m + 2) * u
        together u m x b f l = omega arith

    -- the radius: where the chroma and hue parts are within the tolerance τ, da² + db² is at most its square
    pub near-bound : distance_square s t ≤ radius_of τ k n * radius_of τ k n
    unfolding radius_of allowance
    near-bound =
        let r : ℕ = (parts_most τ * k / 10000 + 1) * weight_most n / 100000 in
        let m : parts_most τ * y ≤ 1000000000000 * (1000 * (r + 1)) =
        scale (parts_most τ) k (chroma_weight sum) _ (weight_most n) refl (chroma_weight-most sum n most) in
        let x : chroma * chroma + (hue + 2) * (hue + 2) ≤ 1000 * (r + 1) * (1000 * (r + 1)) =
        squares-most 1000000000000 chroma (hue + 2) (c + 2) (h + 2) (parts_most τ) y (1000 * (r + 1)) (lit< tt) chroma-reach hue-reach parts-squares m in
        slack (distance_square s t) r _ sum distance-chord x (omega (arith, primed-c-le z s hs, primed-c-le z t ht))
