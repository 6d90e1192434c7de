-- What callers use of the hue term, the weighting functions and the rotation term: their least and largest values.
-- Assumes nothing.
use mathlib.Core.Path.{◌≡◌, refl, sym, ap, ◌∙◌, subst}
use Prim.Native.Nat.{ℕ, suc, ◌+◌, ◌-◌, ◌*◌, ◌/◌, ◌≤◌}
use native.Mathlib.Nat.{le_refl, add_comm, mul_assoc, mul_left_comm, mul-le-mul, div-le_of_le-mul}
use native.Mathlib.Omega.{arith}
use lib.Dec.{lit≤}
use lib.IntN.{ℤ, pos, negsuc, neg_ℤ, nat_abs, ◌+ℤ◌, ◌-ℤ◌, +ℤ-neg_ℤ_cancel}
use Rattle.isqrt.specs.Root.{root_of}
use Rattle.isqrt.proofs.RootLaws.{root-largest}
use Rattle.signed.proofs.SignedLaws.{nat_abs-neg, nat_abs_mul, nat_abs-quot}
use Rattle.signed.proofs.Squares.{apart-size}
use Rattle.sine.specs.Sine.{sine_of, cosine_of}
use Rattle.sine.proofs.SineLaws.{sine-size, cosine-size, sine-not-negative}
use Rattle.gaussian.specs.Gaussian.{gaussian_of}
use Rattle.gaussian.proofs.GaussianLaws.{gaussian-le}
use Rattle.weighting.specs.Weighting.{term_of, hue_term_z, hue_term, lightness_offset, lightness_weight_at, lightness_weight}
use Rattle.weighting.specs.Weighting.{chroma_weight, hue_weight, hue_distance, rotation_sine, rotation}

-- ---- the hue term

-- k hundredths of a number of at most 10^9
pub hundredths-le : (k n : ℕ) → n ≤ 1000000000 → n * k / 100 ≤ 10000000 * k
hundredths-le k n h = omega (arith, mul-le-mul h (le_refl k))

term-size : (k angle : ℕ) → nat_abs (term_of k (cosine_of angle)) ≤ 10000000 * k
unfolding term_of
term-size k angle =
    rw (nat_abs-quot, nat_abs_mul) (hundredths-le k (nat_abs (cosine_of angle)) (cosine-size angle))

-- z is a natural that is at most e from s
record Near (s e : ℕ) (z : ℤ) : Type 0 where
  value : ℕ
  is : z ≡ pos value
  low : s ≤ value + e
  high : value ≤ s + e

sub-natural : (x y : ℕ) → y ≤ x → pos x -ℤ pos y ≡ pos (x - y)
sub-natural x y h =
    let e : x - y + y ≡ x = omega arith in
    ap (λ n. pos n -ℤ pos y) (sym e) ∙ +ℤ-neg_ℤ_cancel (pos (x - y)) (pos y)

near-value : (s e f n : ℕ) (t : ℤ) → s ≤ n + e → n ≤ s + e → nat_abs t ≤ f → e + f ≤ s → Near s (e + f) (pos n +ℤ t)
near-value s e f n (pos m) l h k fits = record { value = n + m; is = refl; low = omega arith; high = omega arith }
near-value s e f n (negsuc m) l h k fits =
    record { value = n - suc m; is = sub-natural n (suc m) (omega arith); low = omega arith; high = omega arith }

near-sum : {s e f : ℕ} {z : ℤ} (t : ℤ) → Near s e z → nat_abs t ≤ f → e + f ≤ s → Near s (e + f) (z +ℤ t)
near-sum {s} {e} {f} t near k fits =
    subst (λ y. Near s (e + f) (y +ℤ t)) (sym near.is) (near-value s e f near.value t near.low near.high k fits)

-- one more term
plus : {s e : ℕ} {z : ℤ} (k angle : ℕ) → Near s e z → e + 10000000 * k ≤ s → Near s (e + 10000000 * k) (z +ℤ term_of k (cosine_of angle))
plus k angle near fits = near-sum (term_of k (cosine_of angle)) near (term-size k angle) fits

minus : {s e : ℕ} {z : ℤ} (k angle : ℕ) → Near s e z → e + 10000000 * k ≤ s → Near s (e + 10000000 * k) (z -ℤ term_of k (cosine_of angle))
minus k angle near fits = near-sum (neg_ℤ (term_of k (cosine_of angle))) near (rw nat_abs-neg (term-size k angle)) fits

-- 17 + 24 + 32 + 20 = 93 hundredths
hue_term-near : (h : ℕ) → Near 1000000000 930000000 (hue_term_z h)
unfolding hue_term_z
hue_term-near h =
    let one : Near 1000000000 0 (pos 1000000000) = record { value = 1000000000; is = refl; low = lit≤ tt; high = lit≤ tt } in
    minus 20 (4 * h + 297000000)
    (plus 32 (3 * h + 6000000) (plus 24 (2 * h) (minus 17 (h + 330000000) one (lit≤ tt)) (lit≤ tt)) (lit≤ tt))
    (lit≤ tt)

hue_term-value : (h : ℕ) → hue_term h ≡ (hue_term-near h).value
unfolding hue_term
hue_term-value h = ap nat_abs (hue_term-near h).is

-- T is never below 0
pub hue_term-is : (h : ℕ) → hue_term_z h ≡ pos (hue_term h)
hue_term-is h = (hue_term-near h).is ∙ ap pos (sym (hue_term-value h))

pub hue_term-ge : (h : ℕ) → 70000000 ≤ hue_term h
hue_term-ge h = omega (arith, hue_term-value h, (hue_term-near h).low)

pub hue_term-le : (h : ℕ) → hue_term h ≤ 1930000000
hue_term-le h = omega (arith, hue_term-value h, (hue_term-near h).high)

-- ---- the weighting function of lightness

pub lightness_weight-ge : (l1 l2 : ℕ) → 1000000000 ≤ lightness_weight l1 l2
unfolding lightness_weight lightness_weight_at
lightness_weight-ge l1 l2 = omega arith

pub lightness_weight-comm : (l1 l2 : ℕ) → lightness_weight l1 l2 ≡ lightness_weight l2 l1
unfolding lightness_weight lightness_offset
lightness_weight-comm l1 l2 = ap (λ n. lightness_weight_at (nat_abs (pos n -ℤ pos 1000000))) (add_comm l1 l2)

apart-le : (x y e : ℕ) → x ≤ y + e → y ≤ x + e → nat_abs (pos x -ℤ pos y) ≤ e
apart-le x y e h k = omega (arith, apart-size x y)

offset-le : (l1 l2 : ℕ) → l1 ≤ 1000000 → l2 ≤ 1000000 → lightness_offset l1 l2 ≤ 1000000
unfolding lightness_offset
offset-le l1 l2 h k = apart-le (l1 + l2) 1000000 1000000 (omega arith) (omega arith)

scaled-square : (a b m : ℕ) → a * m * (b * m) ≡ a * b * (m * m)
scaled-square a b m = mul_assoc a m (b * m) ∙ ap (λ n. a * n) (mul_left_comm m b m) ∙ sym (mul_assoc a b (m * m))

-- the root is at least 1000 m, so the quotient is at most 750 m
weight-at-le : (m : ℕ) → lightness_weight_at m ≤ 1000000000 + 750 * m
unfolding lightness_weight_at
weight-at-le m =
    let n : ℕ = 1000000 * (m * m + 8000000000) in
    let root : 1000 * m ≤ root_of n = root-largest n (1000 * m) (omega (arith, scaled-square 1000 1000 m)) in
    let product : 750000 * (m * m) ≤ root_of n * (750 * m) = rw scaled-square at (mul-le-mul root (le_refl (750 * m))) in
    omega (arith, div-le_of_le-mul (root_of n) product)

pub lightness_weight-le : (l1 l2 : ℕ) → l1 ≤ 1000000 → l2 ≤ 1000000 → lightness_weight l1 l2 ≤ 1750000000
unfolding lightness_weight
lightness_weight-le l1 l2 h k = omega (arith, weight-at-le (lightness_offset l1 l2), offset-le l1 l2 h k)

-- ---- the weighting functions of chroma and hue

pub chroma_weight-ge : (s : ℕ) → 1000000000 ≤ chroma_weight s
unfolding chroma_weight
chroma_weight-ge s = omega arith

pub chroma_weight-le : (s : ℕ) → s ≤ 4615105632 → chroma_weight s ≤ 11383987672
unfolding chroma_weight
chroma_weight-le s h = omega arith

pub hue_weight-ge : (s t : ℕ) → 1000000000 ≤ hue_weight s t
unfolding hue_weight
hue_weight-ge s t = omega arith

pub hue_weight-le : (s t : ℕ) → s ≤ 4615105632 → t ≤ 1930000000 → hue_weight s t ≤ 7680365402
unfolding hue_weight
hue_weight-le s t h k =
    let part : 3 * s / 4 ≤ 3461329224 = omega arith in omega (arith, mul-le-mul part k)

-- SH is at most SC
pub hue_weight-below : (s t : ℕ) → t ≤ 1930000000 → hue_weight s t ≤ chroma_weight s
unfolding hue_weight chroma_weight
hue_weight-below s t h = omega (arith, mul-le-mul (le_refl (3 * s / 4)) h)

-- ---- the rotation term

rotation_sine-le : (e : ℕ) → rotation_sine e ≤ 1000000000
unfolding rotation_sine
rotation_sine-le e = sine-size (6 * e / 100)

pub rotation-le : (z h : ℕ) → z ≤ 1000000000 → rotation z h ≤ 2000000000
unfolding rotation
rotation-le z h k =
    let twice : 2 * z ≤ 2000000000 = omega arith in
    omega (arith, mul-le-mul twice (rotation_sine-le (gaussian_of (hue_distance h))))

-- K is not below 0: its angle is at most 60 degrees
pub rotation_sine-is : (d : ℕ) → sine_of (6 * gaussian_of d / 100) ≡ pos (rotation_sine (gaussian_of d))
unfolding rotation_sine
rotation_sine-is d = sine-not-negative (6 * gaussian_of d / 100) (omega (arith, gaussian-le d))
