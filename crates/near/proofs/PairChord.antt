-- The chord of a pair: with s = C1' + C2', the square of the distance of the two points in the plane of a' and b' is at most dC'² + (|H| + 2)² + 3 s.
-- Assumes nothing.
use mathlib.Core.Path.{◌≡◌, refl, sym, ap, ap₂, ◌∙◌, subst}
use mathlib.Core.Bool.{Bool, true, false}
use Prim.Native.Nat.{ℕ, ◌+◌, ◌-◌, ◌*◌, ◌/◌, ◌≤◌, ◌<◌}
use native.Mathlib.Nat.{le_trans, le_of_eq, mul-le-mul, mul-le-mul_left, mul-le-mul_right}
use native.Mathlib.Decide.{dec_le}
use native.Mathlib.Omega.{arith}
use lib.IntN.{ℤ, pos, nat_abs, ◌+ℤ◌, ◌-ℤ◌, ◌*ℤ◌, zero-*ℤ, *ℤ-zero}
use Rattle.isqrt.proofs.RootLaws.{root-square-le, root-lt-next}
use Rattle.signed.specs.Value.{with_sign}
use Rattle.signed.proofs.SignedLaws.{nat_abs_mul, difference-zero}
use Rattle.signed.proofs.Squares.{square_le, square-cancel, above, below, difference-square, product-exchange, distance-square}
use Rattle.sample.specs.Sample.{Sample}
use Rattle.chroma.specs.Chroma.{sum_of_squares, primed_a, in_ten_millionths, primed_chroma}
use Rattle.chroma.proofs.ChromaLaws.{primed_a-size, in_ten_millionths-size, primed_a-signed, in_ten_millionths-signed}
use Rattle.chroma.proofs.ChromaLaws.{primed_a-zero, in_ten_millionths-zero, primed_chroma-grey, primed_chroma-ge-b}
use Rattle.hue.specs.Hue.{grey, quadrant_of}
use Rattle.hue.proofs.HueLaws.{grey-zero}
use Rattle.hue.proofs.QuadrantSigns.{leftward, downward, a-sign, b-sign, sign-product}
use Rattle.hue_difference.specs.HueDifference.{cross_of, dot_of, no_hue_of, hue_negative, hue_size, hue_difference_of}
use Rattle.hue_difference.proofs.HueDifferenceLaws.{hue-same, hue_difference-size}
use Rattle.hue_difference.proofs.Chord.{chromas-le, size-chord}
use Rattle.difference.specs.Pair.{primed_of, pair_hue_difference, chroma_difference}
use Rattle.difference.proofs.Points.{primed-coloured}

-- ---- hues that are the same: X = 0, and both samples are of one quadrant. H is 0, and what step 3 drops of a' makes X' small

-- x is the size of m - n
apart-le : (x m n k : ℕ) → x * x + 2 * (m * n) ≡ m * m + n * n → m ≤ n + k → n ≤ m + k → x ≤ k
apart-le x m n k e h l = by_order (dec_le n m)
  where
    by_order : Dec (n ≤ m) → x ≤ k
    by_order (yes g) =
        let d : n + (m - n) ≡ m = omega arith in
        let s : x * x + 2 * ((n + (m - n)) * n) ≡ (n + (m - n)) * (n + (m - n)) + n * n = rw d e in
        le_trans (square-cancel x (m - n) (omega (arith, s))) (omega arith)
    by_order (no f) =
        let d : m + (n - m) ≡ n = omega (arith, f) in
        let s : x * x + 2 * (m * (m + (n - m))) ≡ m * m + (m + (n - m)) * (m + (n - m)) = rw d e in
        le_trans (square-cancel x (n - m) (omega (arith, s))) (omega arith)

-- a1' b2' against a2' b1', where a1 b2 = a2 b1
cross-near : (m1 m2 n1 n2 g : ℕ) → m1 * n2 ≡ m2 * n1 → m1 * g / 2000000 * (n2 * 1000) ≤ m2 * g / 2000000 * (n1 * 1000) + n1 * 1000
cross-near m1 m2 n1 n2 g e =
    let x : ℕ = m1 * g / 2000000 in
    let y : ℕ = m2 * g / 2000000 in
    let lo : 2000000 * x ≤ m1 * g = omega arith in
    let hi : m2 * g ≤ 2000000 * y + 2000000 = omega arith in
    let f1 : n2 * (2000000 * x) ≤ n2 * (m1 * g) = mul-le-mul_left n2 lo in
    let f2 : n1 * (m2 * g) ≤ n1 * (2000000 * y + 2000000) = mul-le-mul_left n1 hi in
    let f3 : g * (m1 * n2) ≡ g * (m2 * n1) = ap (λ (n : ℕ). g * n) e in
    from-facts x y f1 f2 f3
  where
    from-facts : (x y : ℕ) → n2 * (2000000 * x) ≤ n2 * (m1 * g) → n1 * (m2 * g) ≤ n1 * (2000000 * y + 2000000)
        → g * (m1 * n2) ≡ g * (m2 * n1)
        → x * (n2 * 1000) ≤ y * (n1 * 1000) + n1 * 1000
    from-facts x y f1 f2 f3 = omega arith

-- p = C1'C2', e = d, x = |X'|, both chromas at least 1000
straight-sizes : (p c1 c2 e x : ℕ) → p ≡ c1 * c2 → p * p ≤ e * e + x * x → 1000 ≤ c1 → 1000 ≤ c2 → x ≤ c1 + c2 → 2 * p ≤ 2 * e + (c1 + c2)
straight-sizes p c1 c2 e x is a l1 l2 h = either (dec_le (2 * p) (2 * e + (c1 + c2)))
  where
    impossible : (s k : ℕ) → (e + k) * (e + k) ≤ e * e + x * x → x ≤ s → 500 * s ≤ e + k → s ≤ 2 * k → 2000 ≤ s → ⊥
    impossible s k b u v w o =
        let f1 : x * x ≤ s * s = square_le u in
        let f2 : s * (500 * s) ≤ 2 * k * (e + k) = mul-le-mul w v in
        let f3 : 2000 * 2000 ≤ s * s = square_le o in
        omega (arith, b, f1, f2, f3)

    either : Dec (2 * p ≤ 2 * e + (c1 + c2)) → 2 * p ≤ 2 * e + (c1 + c2)
    either (yes l) = l
    either (no f) =
        let over : 2 * e + (c1 + c2) < 2 * p = omega (arith, f) in
        let more : e + (p - e) ≡ p = omega arith in
        let half : 500 * (c1 + c2) ≤ p = omega (arith, is, mul-le-mul_left c1 l2, mul-le-mul_right c2 l1) in
        absurd (impossible (c1 + c2) (p - e) (rw more a) h (omega arith) (omega arith) (omega arith))

module _ (a1 b1 a2 b2 : ℤ) (z : ℕ) (h : z ≤ 1000000000) where
  -- a' and b' of both
  abbrev x1 : ℤ
  x1 = primed_a a1 z

  abbrev x2 : ℤ
  x2 = primed_a a2 z

  abbrev y1 : ℤ
  y1 = in_ten_millionths b1

  abbrev y2 : ℤ
  y2 = in_ten_millionths b2

  abbrev c1 : ℕ
  c1 = primed_chroma x1 y1

  abbrev c2 : ℕ
  c2 = primed_chroma x2 y2

  abbrev dot : ℤ
  dot = dot_of x1 y1 x2 y2

  r1 : c1 * c1 ≤ nat_abs x1 * nat_abs x1 + nat_abs y1 * nat_abs y1
  unfolding primed_chroma sum_of_squares
  r1 = root-square-le _

  r2 : c2 * c2 ≤ nat_abs x2 * nat_abs x2 + nat_abs y2 * nat_abs y2
  unfolding primed_chroma sum_of_squares
  r2 = root-square-le _

  module _ (cross : cross_of a1 b1 a2 b2 ≡ pos 0) (same : quadrant_of a1 b1 ≡ quadrant_of a2 b2) where
    abbrev p1 : ℕ
    p1 = nat_abs a1 * (3000000000 - z) / 2000000

    abbrev p2 : ℕ
    p2 = nat_abs a2 * (3000000000 - z) / 2000000

    abbrev m1 : ℕ
    m1 = nat_abs b1 * 1000

    abbrev m2 : ℕ
    m2 = nat_abs b2 * 1000

    products : nat_abs a1 * nat_abs b2 ≡ nat_abs a2 * nat_abs b1
    unfolding cross_of
    products = sym (nat_abs_mul a1 b2) ∙ ap nat_abs (difference-zero (a1 *ℤ b2) (a2 *ℤ b1) cross) ∙ nat_abs_mul a2 b1

    a-product : x1 *ℤ x2 ≡ pos (p1 * p2)
    a-product =
        let s = leftward (quadrant_of a1 b1) in
        let e1 : x1 ≡ with_sign s p1 = ap (λ a. primed_a a z) (a-sign a1 b1) ∙ primed_a-signed s (nat_abs a1) z in
        let e2 : x2 ≡ with_sign s p2 =
        ap (λ a. primed_a a z) (a-sign a2 b2 ∙ ap (λ q. with_sign (leftward q) (nat_abs a2)) (sym same)) ∙ primed_a-signed s (nat_abs a2) z in
        ap₂ ◌*ℤ◌ e1 e2 ∙ sign-product s p1 p2

    b-product : y1 *ℤ y2 ≡ pos (m1 * m2)
    b-product =
        let s = downward (quadrant_of a1 b1) in
        let e1 : y1 ≡ with_sign s m1 = ap in_ten_millionths (b-sign a1 b1) ∙ in_ten_millionths-signed s (nat_abs b1) in
        let e2 : y2 ≡ with_sign s m2 =
        ap in_ten_millionths (b-sign a2 b2 ∙ ap (λ q. with_sign (downward q) (nat_abs b2)) (sym same))
        ∙ in_ten_millionths-signed s (nat_abs b2) in
        ap₂ ◌*ℤ◌ e1 e2 ∙ sign-product s m1 m2

    dot-is : dot ≡ pos (p1 * p2 + m1 * m2)
    unfolding dot_of
    dot-is = ap₂ ◌+ℤ◌ a-product b-product

    abbrev w : ℤ
    w = x1 *ℤ y2

    abbrev v : ℤ
    v = x2 *ℤ y1

    w-size : nat_abs w ≡ p1 * m2
    w-size = nat_abs_mul x1 y2 ∙ ap₂ ◌*◌ (primed_a-size a1 z) (in_ten_millionths-size b2)

    v-size : nat_abs v ≡ p2 * m1
    v-size = nat_abs_mul x2 y1 ∙ ap₂ ◌*◌ (primed_a-size a2 z) (in_ten_millionths-size b1)

    cross_product : w *ℤ v ≡ pos (p1 * p2 * (m1 * m2))
    cross_product = sym (product-exchange x1 x2 y1 y2) ∙ ap₂ ◌*ℤ◌ a-product b-product

    cross-square : nat_abs (w -ℤ v) * nat_abs (w -ℤ v) + 2 * (p1 * m2 * (p2 * m1))
        ≡ p1 * m2 * (p1 * m2) + p2 * m1 * (p2 * m1)
    cross-square =
        let d = difference-square w v in
        let u : above (w *ℤ v) ≡ p1 * p2 * (m1 * m2) = ap above cross_product in
        let l : below (w *ℤ v) ≡ 0 = ap below cross_product in
        let ww : nat_abs w * nat_abs w ≡ p1 * m2 * (p1 * m2) = ap (λ (n : ℕ). n * n) w-size in
        let vv : nat_abs v * nat_abs v ≡ p2 * m1 * (p2 * m1) = ap (λ (n : ℕ). n * n) v-size in
        omega (arith, d, u, l, ww, vv)

    cross-le : nat_abs (cross_of x1 y1 x2 y2) ≤ c1 + c2
    unfolding cross_of
    cross-le =
        let g1 : m1 ≤ c1 = le_trans (le_of_eq (sym (in_ten_millionths-size b1))) (primed_chroma-ge-b x1 y1) in
        let g2 : m2 ≤ c2 = le_trans (le_of_eq (sym (in_ten_millionths-size b2))) (primed_chroma-ge-b x2 y2) in
        let f : p1 * m2 ≤ p2 * m1 + m1 =
        cross-near (nat_abs a1) (nat_abs a2) (nat_abs b1) (nat_abs b2) (3000000000 - z) products in
        let g : p2 * m1 ≤ p1 * m2 + m2 =
        cross-near (nat_abs a2) (nat_abs a1) (nat_abs b2) (nat_abs b1) (3000000000 - z) (sym products) in
        apart-le (nat_abs (w -ℤ v)) (p1 * m2) (p2 * m1) (c1 + c2) cross-square
        (wider _ _ _ _ f g1) (wider' _ _ _ _ g g2)
      where
        wider : (x y n c : ℕ) → x ≤ y + n → n ≤ c → x ≤ y + (c + c2)
        wider x y n c f g = omega arith

        wider' : (x y n c : ℕ) → x ≤ y + n → n ≤ c → x ≤ y + (c1 + c)
        wider' x y n c f g = omega arith

    straight : grey a1 b1 ≡ false → grey a2 b2 ≡ false → 2 * (c1 * c2) + 2 * below dot ≤ 2 * above dot + (c1 + c2)
    straight u1 u2 =
        let e : ℕ = p1 * p2 + m1 * m2 in
        let x : ℕ = nat_abs (cross_of x1 y1 x2 y2) in
        let size : nat_abs dot ≡ e = ap nat_abs dot-is in
        let a : c1 * c2 * (c1 * c2) ≤ nat_abs dot * nat_abs dot + x * x = chromas-le x1 y1 c1 x2 y2 c2 r1 r2 in
        let a' : c1 * c2 * (c1 * c2) ≤ e * e + x * x = rw size at a in
        let s : 2 * (c1 * c2) ≤ 2 * e + (c1 + c2) =
        straight-sizes (c1 * c2) c1 c2 e x refl a' (primed-coloured a1 b1 z h u1) (primed-coloured a2 b2 z h u2) cross-le in
        let p : above dot ≡ e = ap above dot-is in
        let q : below dot ≡ 0 = ap below dot-is in
        omega (arith, s, p, q)

  -- ---- a grey sample

  first-grey : grey a1 b1 ≡ true → (n : ℕ) → 2 * (c1 * c2) + 2 * below dot ≤ n
  unfolding dot_of
  first-grey e n =
      let s = grey-zero a1 b1 e in
      let pa : x1 ≡ pos 0 = ap (λ a. primed_a a z) s.0 ∙ primed_a-zero z in
      let pb : y1 ≡ pos 0 = ap in_ten_millionths s.1 ∙ in_ten_millionths-zero in
      let c : c1 ≡ 0 = ap₂ primed_chroma pa pb ∙ primed_chroma-grey in
      let d : dot ≡ pos 0 = ap₂ ◌+ℤ◌ (ap (λ x. x *ℤ x2) pa ∙ zero-*ℤ x2) (ap (λ x. x *ℤ y2) pb ∙ zero-*ℤ y2) in
      let k : c1 * c2 ≡ 0 * c2 = ap (λ (m : ℕ). m * c2) c in
      let l : below dot ≡ 0 = ap below d in
      omega (arith, k, l)

  second-grey : grey a2 b2 ≡ true → (n : ℕ) → 2 * (c1 * c2) + 2 * below dot ≤ n
  unfolding dot_of
  second-grey e n =
      let s = grey-zero a2 b2 e in
      let pa : x2 ≡ pos 0 = ap (λ a. primed_a a z) s.0 ∙ primed_a-zero z in
      let pb : y2 ≡ pos 0 = ap in_ten_millionths s.1 ∙ in_ten_millionths-zero in
      let c : c2 ≡ 0 = ap₂ primed_chroma pa pb ∙ primed_chroma-grey in
      let d : dot ≡ pos 0 = ap₂ ◌+ℤ◌ (ap (λ x. x1 *ℤ x) pa ∙ *ℤ-zero x1) (ap (λ x. y1 *ℤ x) pb ∙ *ℤ-zero y1) in
      let k : c1 * c2 ≡ c1 * 0 = ap (λ (m : ℕ). c1 * m) c in
      let l : below dot ≡ 0 = ap below d in
      omega (arith, k, l)

  -- ---- every pair

  abbrev size : ℕ
  size = hue_size x1 y1 c1 x2 y2 c2

  sized : 2 * (c1 * c2) + 2 * below dot ≤ 2 * above dot + (size + 2) * (size + 2)
  sized = size-chord x1 y1 c1 x2 y2 c2 r1 r2

  no-hue : grey a1 b1 ≡ false → grey a2 b2 ≡ false → no_hue_of a1 b1 a2 b2 ≡ true
      → 2 * (c1 * c2) + 2 * below dot ≤ 2 * above dot + (c1 + c2)
  no-hue u1 u2 e = let same = hue-same a1 b1 a2 b2 e u1 u2 in straight same.0 same.1 u1 u2

  by-none : (t : Bool) → no_hue_of a1 b1 a2 b2 ≡ t → grey a1 b1 ≡ false → grey a2 b2 ≡ false
      → (y : ℕ) → nat_abs (hue_difference_of t (hue_negative a1 b1 a2 b2) size) ≡ y
      → 2 * (c1 * c2) + 2 * below dot ≤ 2 * above dot + (y + 2) * (y + 2) + (c1 + c2)
  by-none true e u1 u2 y i = omega (arith, no-hue u1 u2 e)
  by-none false e u1 u2 y i =
      let j : size ≡ y = sym (hue_difference-size (hue_negative a1 b1 a2 b2) size) ∙ i in
      let k : 2 * (c1 * c2) + 2 * below dot ≤ 2 * above dot + (y + 2) * (y + 2) =
      subst (λ (n : ℕ). 2 * (c1 * c2) + 2 * below dot ≤ 2 * above dot + (n + 2) * (n + 2)) j sized in
      omega (arith, k)

  abbrev hue : ℕ
  hue = nat_abs (hue_difference_of (no_hue_of a1 b1 a2 b2) (hue_negative a1 b1 a2 b2) size)

  by-grey : (g1 g2 : Bool) → grey a1 b1 ≡ g1 → grey a2 b2 ≡ g2
      → 2 * (c1 * c2) + 2 * below dot ≤ 2 * above dot + (hue + 2) * (hue + 2) + (c1 + c2)
  by-grey true g2 e f = first-grey e _
  by-grey false true e f = second-grey f _
  by-grey false false e f = by-none (no_hue_of a1 b1 a2 b2) refl e f hue refl

  n1 : nat_abs x1 * nat_abs x1 + nat_abs y1 * nat_abs y1 < (c1 + 1) * (c1 + 1)
  unfolding primed_chroma sum_of_squares
  n1 = root-lt-next _

  n2 : nat_abs x2 * nat_abs x2 + nat_abs y2 * nat_abs y2 < (c2 + 1) * (c2 + 1)
  unfolding primed_chroma sum_of_squares
  n2 = root-lt-next _

  distance : nat_abs (x2 -ℤ x1) * nat_abs (x2 -ℤ x1) + nat_abs (y2 -ℤ y1) * nat_abs (y2 -ℤ y1) + 2 * above dot
      ≡ nat_abs x1 * nat_abs x1 + nat_abs y1 * nat_abs y1 + (nat_abs x2 * nat_abs x2 + nat_abs y2 * nat_abs y2) + 2 * below dot
  unfolding dot_of
  distance = distance-square x1 y1 x2 y2

  points-chord : nat_abs (x2 -ℤ x1) * nat_abs (x2 -ℤ x1) + nat_abs (y2 -ℤ y1) * nat_abs (y2 -ℤ y1)
      ≤ nat_abs (pos c2 -ℤ pos c1) * nat_abs (pos c2 -ℤ pos c1) + (hue + 2) * (hue + 2) + 3 * (c1 + c2)
  points-chord = omega (arith, distance, n1, n2, difference-square (pos c2) (pos c1), by-grey (grey a1 b1) (grey a2 b2) refl refl)

-- the chord of a pair of samples; z is Z(C1 + C2)
pub pair-chord : (s t : Sample) (z : ℕ) → z ≤ 1000000000
    → nat_abs (primed_a t.a z -ℤ primed_a s.a z) * nat_abs (primed_a t.a z -ℤ primed_a s.a z)
    + nat_abs (in_ten_millionths t.b -ℤ in_ten_millionths s.b) * nat_abs (in_ten_millionths t.b -ℤ in_ten_millionths s.b)
    ≤ nat_abs (chroma_difference (primed_of z s) (primed_of z t)) * nat_abs (chroma_difference (primed_of z s) (primed_of z t))
    + (nat_abs (pair_hue_difference s t (primed_of z s) (primed_of z t)) + 2) * (nat_abs (pair_hue_difference s t (primed_of z s) (primed_of z t)) + 2)
    + 3 * ((primed_of z s).c + (primed_of z t).c)
unfolding primed_of chroma_difference pair_hue_difference
pair-chord s t z h = points-chord s.a s.b t.a t.b z h
