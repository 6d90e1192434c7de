-- The laws of chroma, of the ratio and of the primed coordinates that callers use: bounds, zeros and signs.
-- Assumes nothing.
use mathlib.Core.Path.{◌≡◌, refl, sym, ap, ◌∙◌}
use mathlib.Core.Bool.{Bool, true, false, cond}
use Prim.Native.Nat.{ℕ, zero, suc, ◌+◌, ◌-◌, ◌*◌, ◌/◌, ◌≤◌, ◌<◌}
use native.Mathlib.Nat.{le_refl, lt_of_lt_of_le, sub-le, zero-mul, mul-le-mul, mul-le-mul_left, div-le_of_le-mul, le-div_iff_mul-le}
use native.Mathlib.Omega.{arith}
use lib.Dec.{leb, leb-suc-zero, lit<}
use borrow.Author.Tests.{lt-ltb, lt-leb}
use lib.IntN.{ℤ, pos, negsuc, neg_ℤ, nat_abs, ◌*ℤ◌}
use lib.Signed.{lt_z, quot_z}
use Rattle.isqrt.specs.Root.{root_of}
use Rattle.isqrt.proofs.RootLaws.{root_below, root-largest, root-le, root-square-plus}
use Rattle.signed.specs.declared.Int.{Int}
use Rattle.signed.specs.Value.{with_sign}
use Rattle.signed.specs.Inner.{int}
use Rattle.signed.proofs.SignedLaws.{int-size, nat_abs_mul, nat_abs-quot, neg-mul, neg-quot, lt-neg-pos, lt-pos-neg}
use Rattle.chroma.specs.Chroma.{sum_of_squares, chroma_of, power_of, hypotenuse_of, ratio_of, primed_a, in_ten_millionths, primed_chroma}

-- ---- step 1

pub squares-le : {x y m n : ℕ} → x ≤ m → y ≤ n → x * x + y * y ≤ m * m + n * n
squares-le h k = omega (arith, mul-le-mul h h, mul-le-mul k k)

sum_of_squares-le : {m n : ℕ} (a b : ℤ) → nat_abs a ≤ m → nat_abs b ≤ n → sum_of_squares a b ≤ m * m + n * n
unfolding sum_of_squares
sum_of_squares-le a b h k = squares-le h k

pub sum_of_squares-is : (a b : Int) → a.n * a.n + b.n * b.n ≡ sum_of_squares (int a) (int b)
unfolding sum_of_squares
sum_of_squares-is a b = cc (int-size a, int-size b)

pub chroma-le : (a b : ℤ) → nat_abs a ≤ 1280000 → nat_abs b ≤ 1280000 → chroma_of a b ≤ 1810193359
unfolding chroma_of
chroma-le a b h k =
    omega (arith, root_below (1000000 * sum_of_squares a b) 1810193360 (omega (arith, sum_of_squares-le a b h k)))

-- grey
pub chroma-zero : chroma_of (pos 0) (pos 0) ≡ 0
unfolding chroma_of sum_of_squares
chroma-zero = omega (arith, root-le 0 0 (le_refl 0))

-- ---- step 2

-- one more factor of at most 1, in 10^-9
factor : {m n : ℕ} → m ≤ 1000000000000000000 → n ≤ 1000000000 → m / 1000000000 * n ≤ 1000000000000000000
factor {m} h k = let l : m / 1000000000 ≤ 1000000000 = omega arith in mul-le-mul l k

pub root-small : {n r : ℕ} → r ≡ root_of n → n ≤ 1000000000000000000 → r ≤ 1000000000
root-small {n} e h = omega (arith, root-le n 1000000000 h)

-- r is the root in p: no product wraps
pub record Products (x r : ℕ) : Type 0 where
  pub square : x * x ≤ 1000000000000000000
  pub cube : x * x / 1000000000 * x ≤ 1000000000000000000
  pub last : x * x / 1000000000 * x / 1000000000 * r ≤ 1000000000000000000

pub products : {x r : ℕ} → x ≤ 1000000000 → r ≤ 1000000000 → Products x r
products {x} h k =
    let square : x * x ≤ 1000000000000000000 = mul-le-mul h h in
    let cube : x * x / 1000000000 * x ≤ 1000000000000000000 = factor square h in
    record { square = square; cube = cube; last = factor cube k }

pub power_le : (x : ℕ) → x ≤ 1000000000 → power_of x ≤ 1000000000
unfolding power_of
power_le x h =
    let k : root_of (1000000000 * x) ≤ 1000000000 = root-small refl (omega arith) in omega (arith, products h k)

-- the x over 10^9 of the second branch
pub inverse-le : {x : ℕ} → 1000000000 < x → 1000000000000000000 / x ≤ 1000000000
inverse-le {x} h = div-le_of_le-mul x (omega arith)

pub hypotenuse-ge-one : (p : ℕ) → 1000000000 ≤ hypotenuse_of p
unfolding hypotenuse_of
hypotenuse-ge-one p = root-square-plus 1000000000 (p * p)

hypotenuse-ge : (p : ℕ) → p ≤ hypotenuse_of p
unfolding hypotenuse_of
hypotenuse-ge p = root-largest (1000000000000000000 + p * p) p (omega arith)

pub ratio-le : (s : ℕ) → ratio_of s ≤ 1000000000
unfolding ratio_of
ratio-le s = by-test (leb (2 * s) 1000000000) (power_of (2 * s)) (power_of (1000000000000000000 / (2 * s)))
  where
    by-test : (t : Bool) (p q : ℕ) → cond t (1000000000 * p / hypotenuse_of p) (1000000000000000000 / hypotenuse_of q) ≤ 1000000000
    by-test true p q = div-le_of_le-mul (hypotenuse_of p) (omega (arith, hypotenuse-ge p))
    by-test false p q = div-le_of_le-mul (hypotenuse_of q) (omega (arith, hypotenuse-ge-one q))

hypotenuse-le : (p : ℕ) → p ≤ 1000000000 → hypotenuse_of p ≤ 1414213563
unfolding hypotenuse_of
hypotenuse-le p h = root-le (1000000000000000000 + p * p) 1414213563 (omega (arith, mul-le-mul h h))

-- the ratio of a chroma sum above 50 is at least 0.707
pub ratio-large : (s : ℕ) → 1000000000 < 2 * s → 707106780 ≤ ratio_of s
unfolding ratio_of
ratio-large s h =
    let p : ℕ = power_of (1000000000000000000 / (2 * s)) in
    let l : 707106780 * hypotenuse_of p ≤ 1000000000000000000 = omega (arith, hypotenuse-le p (power_le _ (inverse-le h))) in
    rw (lt-leb (2 * s) 1000000000 h) ((le-div_iff_mul-le (lt_of_lt_of_le (lit< tt) (hypotenuse-ge-one p))).1 l)

-- ---- step 3: sizes

pub primed_a-size : (a : ℤ) (z : ℕ) → nat_abs (primed_a a z) ≡ nat_abs a * (3000000000 - z) / 2000000
unfolding primed_a
primed_a-size a z = nat_abs-quot (a *ℤ pos (3000000000 - z)) 2000000 ∙ ap (λ n. n / 2000000) (nat_abs_mul a (pos (3000000000 - z)))

-- a is lengthened by a half at most, and by less where the ratio is large
pub primed_a-most : (a : ℤ) (z : ℕ) → nat_abs (primed_a a z) ≤ 1500 * nat_abs a
primed_a-most a z = omega (arith, primed_a-size a z, mul-le-mul_left (nat_abs a) (sub-le 3000000000 z))

pub primed_a-most-large : (a : ℤ) (z : ℕ) → 707106780 ≤ z → nat_abs (primed_a a z) ≤ 1148 * nat_abs a
primed_a-most-large a z h =
    let k : 3000000000 - z ≤ 2292893220 = omega arith in omega (arith, primed_a-size a z, mul-le-mul_left (nat_abs a) k)

pub primed_a-le : (a : ℤ) (z : ℕ) → nat_abs a ≤ 1280000 → nat_abs (primed_a a z) ≤ 1920000000
primed_a-le a z h = omega (arith, primed_a-most a z)

-- so a' is 0 only where a is
pub primed_a-ge : (a : ℤ) (z : ℕ) → z ≤ 1000000000 → 1000 * nat_abs a ≤ nat_abs (primed_a a z)
primed_a-ge a z h =
    let k : 2000000000 ≤ 3000000000 - z = omega arith in omega (arith, primed_a-size a z, mul-le-mul_left (nat_abs a) k)

pub in_ten_millionths-size : (b : ℤ) → nat_abs (in_ten_millionths b) ≡ nat_abs b * 1000
unfolding in_ten_millionths
in_ten_millionths-size b = nat_abs_mul b (pos 1000)

pub in_ten_millionths-le : (b : ℤ) → nat_abs b ≤ 1280000 → nat_abs (in_ten_millionths b) ≤ 1280000000
in_ten_millionths-le b h = omega (arith, in_ten_millionths-size b)

pub primed_chroma-le : (a b : ℤ) → nat_abs a ≤ 1920000000 → nat_abs b ≤ 1280000000 → primed_chroma a b ≤ 2307552816
unfolding primed_chroma
primed_chroma-le a b h k = omega (arith, root_below (sum_of_squares a b) 2307552817 (omega (arith, sum_of_squares-le a b h k)))

pub primed_chroma-ge-a : (a b : ℤ) → nat_abs a ≤ primed_chroma a b
unfolding primed_chroma sum_of_squares
primed_chroma-ge-a a b = root-square-plus (nat_abs a) (nat_abs b * nat_abs b)

pub primed_chroma-ge-b : (a b : ℤ) → nat_abs b ≤ primed_chroma a b
unfolding primed_chroma sum_of_squares
primed_chroma-ge-b a b = root-largest (nat_abs a * nat_abs a + nat_abs b * nat_abs b) (nat_abs b) (omega arith)

pub primed_chroma-grey : primed_chroma (pos 0) (pos 0) ≡ 0
unfolding primed_chroma sum_of_squares
primed_chroma-grey = omega (arith, root-le 0 0 (le_refl 0))

-- ---- step 3: signs

pub primed_a-neg : (a : ℤ) (z : ℕ) → primed_a (neg_ℤ a) z ≡ neg_ℤ (primed_a a z)
unfolding primed_a
primed_a-neg a z = ap (λ x. quot_z x (pos 2000000)) (neg-mul a (pos (3000000000 - z))) ∙ neg-quot (a *ℤ pos (3000000000 - z)) (pos 2000000)

pub in_ten_millionths-neg : (b : ℤ) → in_ten_millionths (neg_ℤ b) ≡ neg_ℤ (in_ten_millionths b)
unfolding in_ten_millionths
in_ten_millionths-neg b = neg-mul b (pos 1000)

pub primed_a-zero : (z : ℕ) → primed_a (pos 0) z ≡ pos 0
unfolding primed_a
primed_a-zero z = rw (zero-mul (3000000000 - z))

pub in_ten_millionths-zero : in_ten_millionths (pos 0) ≡ pos 0
unfolding in_ten_millionths
in_ten_millionths-zero = refl

-- a' and b' have the signs of a and b
pub primed_a-signed : (s : Bool) (n z : ℕ) → primed_a (with_sign s n) z ≡ with_sign s (n * (3000000000 - z) / 2000000)
unfolding primed_a
primed_a-signed false n z = refl
primed_a-signed true n z = primed_a-neg (pos n) z

pub in_ten_millionths-signed : (s : Bool) (n : ℕ) → in_ten_millionths (with_sign s n) ≡ with_sign s (n * 1000)
unfolding in_ten_millionths
in_ten_millionths-signed false n = refl
in_ten_millionths-signed true n = in_ten_millionths-neg (pos n)

record SignKept (f : ℤ → ℤ) : Type 0 where
  negative : (x : ℤ) → lt_z (f x) (pos 0) ≡ lt_z x (pos 0)
  positive : (x : ℤ) → lt_z (pos 0) (f x) ≡ lt_z (pos 0) x

-- f is odd, is 0 at 0, keeps naturals natural and makes no size less
module _ (f : ℤ → ℤ) (natural : (n : ℕ) → f (pos n) ≡ pos (nat_abs (f (pos n)))) (odd : (x : ℤ) → f (neg_ℤ x) ≡ neg_ℤ (f x))
    (at_zero : f (pos 0) ≡ pos 0) (size-ge : (x : ℤ) → nat_abs x ≤ nat_abs (f x)) where
  abbrev size : ℕ → ℕ
  size n = nat_abs (f (pos n))

  size-positive : (n : ℕ) → 0 < size (suc n)
  size-positive n = omega (arith, size-ge (pos (suc n)))

  at-negative : (n : ℕ) → f (negsuc n) ≡ neg_ℤ (pos (size (suc n)))
  at-negative n = odd (pos (suc n)) ∙ ap neg_ℤ (natural (suc n))

  negative-kept : (x : ℤ) → lt_z (f x) (pos 0) ≡ lt_z x (pos 0)
  negative-kept (pos n) = ap (λ y. lt_z y (pos 0)) (natural n) ∙ leb-suc-zero (size n) ∙ sym (leb-suc-zero n)
  negative-kept (negsuc n) = ap (λ y. lt_z y (pos 0)) (at-negative n) ∙ lt-neg-pos (size (suc n)) 0 (size-positive n)

  positive-kept : (x : ℤ) → lt_z (pos 0) (f x) ≡ lt_z (pos 0) x
  positive-kept (pos zero) = ap (lt_z (pos 0)) at_zero
  positive-kept (pos (suc n)) =
      ap (lt_z (pos 0)) (natural (suc n)) ∙ lt-ltb 0 (size (suc n)) (size-positive n) ∙ sym (lt-ltb 0 (suc n) (omega arith))
  positive-kept (negsuc n) = ap (lt_z (pos 0)) (at-negative n) ∙ lt-pos-neg 0 (size (suc n))

  sign_kept : SignKept f
  sign_kept = record { negative = negative-kept; positive = positive-kept }

primed_a-sign : (z : ℕ) → z ≤ 1000000000 → SignKept (λ a. primed_a a z)
unfolding primed_a
primed_a-sign z h = sign_kept (λ a. primed_a a z) (λ n. refl) (λ a. primed_a-neg a z) (primed_a-zero z) (λ a. omega (arith, primed_a-ge a z h))

in_ten_millionths-sign : SignKept in_ten_millionths
unfolding in_ten_millionths
in_ten_millionths-sign = sign_kept in_ten_millionths (λ n. refl) in_ten_millionths-neg in_ten_millionths-zero
    (λ b. omega (arith, in_ten_millionths-size b))

pub primed_a-negative : (a : ℤ) (z : ℕ) → z ≤ 1000000000 → lt_z (primed_a a z) (pos 0) ≡ lt_z a (pos 0)
primed_a-negative a z h = (primed_a-sign z h).negative a

pub primed_a-positive : (a : ℤ) (z : ℕ) → z ≤ 1000000000 → lt_z (pos 0) (primed_a a z) ≡ lt_z (pos 0) a
primed_a-positive a z h = (primed_a-sign z h).positive a

pub in_ten_millionths-negative : (b : ℤ) → lt_z (in_ten_millionths b) (pos 0) ≡ lt_z b (pos 0)
in_ten_millionths-negative b = in_ten_millionths-sign.negative b

pub in_ten_millionths-positive : (b : ℤ) → lt_z (pos 0) (in_ten_millionths b) ≡ lt_z (pos 0) b
in_ten_millionths-positive b = in_ten_millionths-sign.positive b

-- the chroma is that of 1000 a and 1000 b
pub chroma-plain : (a b : ℤ) → chroma_of a b ≡ primed_chroma (in_ten_millionths a) (in_ten_millionths b)
unfolding chroma_of primed_chroma sum_of_squares
chroma-plain a b = ap root_of
    (thousand (nat_abs a) (nat_abs b) (nat_abs (in_ten_millionths a)) (nat_abs (in_ten_millionths b)) (in_ten_millionths-size a)
    (in_ten_millionths-size b))
  where
    thousand : (x y u v : ℕ) → u ≡ x * 1000 → v ≡ y * 1000 → 1000000 * (x * x + y * y) ≡ u * u + v * v
    thousand x y u v p q =
        let u' : u * u ≡ x * 1000 * (x * 1000) = ap (λ (n : ℕ). n * n) p in
        let v' : v * v ≡ y * 1000 * (y * 1000) = ap (λ (n : ℕ). n * n) q in
        omega arith
