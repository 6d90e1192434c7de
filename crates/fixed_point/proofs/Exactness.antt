-- A finite f32 of at most 128 in size, times 20,000, is exact in f64: 24 binary digits and 10 more fit 53, and the exponent
-- is far from both ends. Assumes nothing.
use Rattle.std.proofs.Common.{◌≡◌, ℕ, suc, ◌+◌, ◌-◌, ◌*◌, ◌%◌, ◌^◌, ◌<◌, ◌≤◌, Bool, false, ◌&&◌, T, eqb, ltb, leb, ℤ, pos, negsuc, sym, ap, ◌∙◌, subst, le_trans, lt_of_lt_of_le, zero-lt-suc, mul_assoc, mul_comm, lt_of_not-le, mul-one, not-le_of_lt, mul_left_comm, arith, lit≤, ltb→lt, leb→le, pow_pos, pow_mono, pow-add, shl_lt}
use native.Mathlib.Decide.{dec_le}
use lib.Pow.{pow-lt}
use lib.Ieee.{fin, binary32, binary64, up, down, round, mul, fits}
use lib.Ieee.Digits.{back}
use lib.Ieee.Fits.{and_l, and_r}
use lib.Ieee.Exact.{HasValue, round_exact}

pow-le : (i j : ℕ) → 2 ^ i ≤ 2 ^ j → i ≤ j
pow-le i j h = either (dec_le i j)
  where
    either : Dec (i ≤ j) → i ≤ j
    either (yes p) = p
    either (no f) = absurd (not-le_of_lt (pow-lt (lt_of_not-le f)) h)

-- the digits of the product
digits : (m : ℕ) → m < 2 ^ 24 → m * 20000 < 2 ^ 39
digits m h = omega arith

regroup : (m a p : ℕ) → m * a * 20000 * p ≡ m * 20000 * (a * p) * 1
regroup m a p = simp (mul-one, mul_assoc, mul_comm, mul_left_comm)

under-shift : (m a : ℕ) → m * a ≤ 128 → m * 20000 * a < 2 ^ 22
under-shift m a h = subst (λ (x : ℕ). x < 2 ^ 22) (simp (mul_assoc, mul_comm, mul_left_comm)) (below (m * a) h)
  where
    below : (x : ℕ) → x ≤ 128 → x * 20000 < 2 ^ 22
    below x k = omega arith

-- a whole exponent
exact-up : (m k : ℕ) → m < 2 ^ 24 → m * 2 ^ k ≤ 128 → HasValue (round binary64 false (m * 2 ^ k * 20000) 1) false (m * 2 ^ k * 20000) 1
exact-up m k small under =
    round_exact binary64 false (m * 2 ^ k * 20000) 1 (m * 20000) (k + 1074) (zero-lt-suc 0)
    (lt_of_lt_of_le (digits m small) (pow_mono {i = 39} {j = 53} (lit≤ tt)))
    (subst (λ (x : ℕ). x < 2 ^ 2098) (mul_assoc (m * 20000) (2 ^ k) (2 ^ 1074) ∙ ap (λ (x : ℕ). m * 20000 * x) (sym (pow-add 2 k 1074)))
    (lt_of_lt_of_le (shl_lt 22 1074 (under-shift m (2 ^ k) under)) (pow_mono {i = 1096} {j = 2098} (lit≤ tt))))
    (regroup m (2 ^ k) (2 ^ 1074) ∙ ap (λ (x : ℕ). m * 20000 * x * 1) (sym (pow-add 2 k 1074)))

-- an exponent below zero
exact-down : (m k : ℕ) → m < 2 ^ 24 → 2 ^ suc k ≤ 2 ^ 149 → HasValue (round binary64 false (m * 20000) (2 ^ suc k)) false (m * 20000) (2 ^ suc k)
exact-down m k small deep =
    let l : suc k ≤ 1074 = le_trans (pow-le (suc k) 149 deep) (lit≤ tt) in
    let j : ℕ = 1074 - suc k in
    let q : m * 20000 < 2 ^ 39 = digits m small in
    let shift : 2 ^ 1074 ≡ 2 ^ j * 2 ^ suc k = ap (λ (x : ℕ). 2 ^ x) (sym (back 1074 (suc k) l)) ∙ pow-add 2 j (suc k) in
    round_exact binary64 false (m * 20000) (2 ^ suc k) (m * 20000) j (pow_pos (suc k)) (lt_of_lt_of_le q (pow_mono {i = 39} {j = 53} (lit≤ tt)))
    (lt_of_lt_of_le (shl_lt 39 j q) (pow_mono (room (suc k))))
    (ap (λ (x : ℕ). m * 20000 * x) shift ∙ sym (mul_assoc (m * 20000) (2 ^ j) (2 ^ suc k)))
  where
    room : (i : ℕ) → 39 + (1074 - i) ≤ 2098
    room i = omega arith

-- what `fits` says of the digits and of the exponent
few-digits : (s : Bool) (m : ℕ) (e : ℤ) → T (fits binary32 (fin s (suc m) e)) → suc m < 2 ^ 24
unfolding fits
few-digits s m e t =
    ltb→lt (suc m) (2 ^ 24) (and_r (eqb (suc m % 2) 1) (ltb (suc m) (2 ^ 24))
    (and_l (eqb (suc m % 2) 1 && ltb (suc m) (2 ^ 24)) (leb (down e) (2 ^ 149))
    (and_l (eqb (suc m % 2) 1 && ltb (suc m) (2 ^ 24) && leb (down e) (2 ^ 149)) (ltb (suc m * up e) (2 ^ 128 * down e)) t)))

not-deep : (s : Bool) (m : ℕ) (e : ℤ) → T (fits binary32 (fin s (suc m) e)) → down e ≤ 2 ^ 149
unfolding fits
not-deep s m e t =
    leb→le (down e) (2 ^ 149) (and_r (eqb (suc m % 2) 1 && ltb (suc m) (2 ^ 24)) (leb (down e) (2 ^ 149))
    (and_l (eqb (suc m % 2) 1 && ltb (suc m) (2 ^ 24) && leb (down e) (2 ^ 149)) (ltb (suc m * up e) (2 ^ 128 * down e)) t))

-- the product as `mul` has it: the size of x times 625 * 2 ^ 5
pub exact-product : (s : Bool) (m : ℕ) (e : ℤ) → T (fits binary32 (fin s (suc m) e)) → suc m * up e ≤ 128 * down e
    → HasValue (mul binary64 (fin false (suc m) e) (fin false 625 (pos 5))) false (suc m * up e * 20000) (down e)
unfolding mul
exact-product s m (pos k) t h = exact-up (suc m) k (few-digits s m (pos k) t) h
exact-product s m (negsuc k) t h =
    subst (λ (x : ℕ). HasValue (round binary64 false (suc m * 1 * 20000) x) false (suc m * 1 * 20000) (2 ^ suc k)) (sym (mul-one (2 ^ suc k)))
    (subst (λ (x : ℕ). HasValue (round binary64 false (x * 20000) (2 ^ suc k)) false (x * 20000) (2 ^ suc k)) (sym (mul-one (suc m)))
    (exact-down (suc m) k (few-digits s m (negsuc k) t) (not-deep s m (negsuc k) t)))
