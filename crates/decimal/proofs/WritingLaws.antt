-- The digits of a number, and the texts that they make in a buffer.
use mathlib.Core.Path.{◌≡◌, refl, sym, ap, ◌∙◌}
use mathlib.Core.Bool.{Bool, true, false}
use mathlib.Core.List.{List, [], ◌∷◌, ◌++◌}
use Prim.Native.Nat.{ℕ, zero, suc, ◌+◌, ◌-◌, ◌*◌, ◌/◌, ◌%◌, ◌^◌, ◌≤◌, ◌<◌}
use native.Mathlib.Nat.{pow-suc, one-le-pow, div-lt_iff_lt-mul}
use native.Mathlib.Decide.{dec_lt}
use native.Mathlib.Omega.{arith}
use lib.ListN.{length, set, length-append}
use lib.Seq.{sets, set_comm}
use lib.Dec.{lit<}
use lib.Pow.{pow-add}
use lib.IntN.{ℤ, nat_abs}
use borrow.Author.Tests.{lt-ltb, le-ltb}
use Rattle.signed.specs.Value.{with_sign}
use Rattle.signed.specs.Inner.{int}
use Rattle.signed.specs.declared.Int.{Int}
use Rattle.signed.proofs.SignedLaws.{int-true, int-false, lt-neg-pos}
use Rattle.buffer.specs.Writing.{Written}
use Rattle.buffer.proofs.WritingLaws.{sets-append, written-append, written_is, written-most}
use Rattle.decimal.specs.Writing.{last_digits, count_in, digits_of, minus_of, fixed_text}
use Rattle.decimal.specs.Inner.{digit_count}

last-length : (k n : ℕ) → length (last_digits k n) ≡ k
unfolding last_digits
last-length zero n = refl
last-length (suc k) n = rw (length-append, last-length k (n / 10)) (omega arith)

-- a store before a run of stores that ends below it
set_before : (xs out : List ℕ) (at k d : ℕ) → at + length xs ≤ k → set (sets out at xs) k d ≡ sets (set out k d) at xs
set_before [] out at k d h = refl
set_before (x ∷ xs) out at k d h =
    set_before xs (set out at x) (suc at) k d (omega arith)
    ∙ ap (λ (o : List ℕ). sets o (suc at) xs) (set_comm out at k x d (λ e. omega arith))

-- the last digit is stored first
pub last_turn : (out : List ℕ) (at i rest : ℕ) → 0 < i
    → sets (set out (at + (i - 1)) (48 + rest % 10)) at (last_digits (i - 1) (rest / 10))
    ≡ sets out at (last_digits i rest)
unfolding last_digits
last_turn out at zero rest h = absurd (omega arith)
last_turn out at (suc k) rest h =
    let e : suc k - 1 ≡ k = omega arith in
    let l = last-length k (rest / 10) in
    rw e
    (sym (set_before (last_digits k (rest / 10)) out at (at + k) (48 + rest % 10) (omega arith))
    ∙ ap (λ (j : ℕ). set (sets out at (last_digits k (rest / 10))) (at + j) (48 + rest % 10)) (sym l)
    ∙ sets-append (last_digits k (rest / 10)) ((48 + rest % 10) ∷ []) out at)

pub last_written : {out last : List ℕ} {i : ℕ} (at k n rest : ℕ) → i ≡ 0
    → sets last at (last_digits i rest) ≡ sets out at (last_digits k n) → Written out at (last_digits k n) k last (at + k)
unfolding last_digits
last_written at k n rest z e = record { is = rw z at e; next = rw last-length; size = rw last-length (omega arith) }

pub power-positive : {p : ℕ} (k : ℕ) → p ≡ 10 ^ k → 0 < p
power-positive k e = rw e (one-le-pow k 10 (lit< tt))

in_one : (k n : ℕ) → n < 10 → count_in (suc k) n ≡ 1
unfolding count_in
in_one k n h = rw (lt-ltb _ _ h)

in-more : (k n : ℕ) → 10 ≤ n → count_in (suc k) n ≡ suc (count_in k (n / 10))
unfolding count_in
in-more k n h = rw (le-ltb _ _ h)

-- more steps than the number change nothing
count-enough : (j k n : ℕ) → n < j → n < k → count_in j n ≡ count_in k n
count-enough zero k n h g = absurd (omega arith)
count-enough (suc j) zero n h g = absurd (omega arith)
count-enough (suc j) (suc k) n h g = by_size (dec_lt n 10) (count-enough j k (n / 10))
  where
    by_size : Dec (n < 10) → (n / 10 < j → n / 10 < k → count_in j (n / 10) ≡ count_in k (n / 10))
        → count_in (suc j) n ≡ count_in (suc k) n
    by_size (yes s) f = in_one j n s ∙ sym (in_one k n s)
    by_size (no s) f =
        let t : 10 ≤ n = omega arith in
        in-more j n t ∙ ap suc (f (omega arith) (omega arith)) ∙ sym (in-more k n t)

pub count-one : (n : ℕ) → n < 10 → digit_count n ≡ 1
unfolding digit_count
count-one n h = in_one n n h

pub count-more : (n : ℕ) → 10 ≤ n → digit_count n ≡ suc (digit_count (n / 10))
unfolding digit_count
count-more n h = in-more n n h ∙ ap suc (count-enough n (suc (n / 10)) (n / 10) (omega arith) (omega arith))

-- a number below 10 ^ (k + 1) has at most k + 1 digits
pub count-below : (k n : ℕ) → n < 10 ^ suc k → digit_count n ≤ suc k
count-below zero n h = let s : n < 10 = omega (arith, h) in omega (arith, count-one n s)
count-below (suc k) n h = by_size (dec_lt n 10) (count-below k (n / 10))
  where
    by_size : Dec (n < 10) → (n / 10 < 10 ^ suc k → digit_count (n / 10) ≤ suc k) → digit_count n ≤ suc (suc k)
    by_size (yes s) f = omega (arith, count-one n s)
    by_size (no s) f =
        let g : n < 10 ^ suc k * 10 = rw pow-suc at h in
        omega (arith, count-more n (omega arith), f (omega arith))

-- and one that is not below 10 ^ k more than k
pub count-is : (k n : ℕ) → 10 ^ k ≤ n → n < 10 * 10 ^ k → digit_count n ≡ k + 1
count-is zero n low high = count-one n (omega arith)
count-is (suc k) n low high =
    let l : 10 ^ k * 10 ≤ n = rw pow-suc at low in
    let h : n < 10 * (10 ^ k * 10) = rw pow-suc at high in
    let p = one-le-pow k 10 (lit< tt) in
    omega (arith, count-more n (omega arith), count-is k (n / 10) (omega arith) (omega arith))

-- the whole part of a 64-bit number, and so many decimals
pub whole-count : {n p places : ℕ} → n < 2 ^ 64 → places ≤ 6 → p ≡ 10 ^ places → digit_count (n / p) + places ≤ 20
whole-count {n} {p} {places} h k e =
    let t : suc (19 - places) + places ≡ 20 = omega arith in
    let q : n < 10 ^ suc (19 - places) * p = rw (e, ← pow-add 10 (suc (19 - places)) places, t) (omega arith) in
    let c = count-below (19 - places) (n / p) ((div-lt_iff_lt-mul (power-positive _ e)).1 q) in
    omega arith

zero-no-minus : (t : Bool) (n : ℕ) → n ≡ 0 → minus_of (with_sign t n) ≡ []
unfolding minus_of
zero-no-minus true n e = rw e
zero-no-minus false n e = rw e

-- the minus, from the sign and the size
pub minus-zero : (v : Int) → v.n ≡ 0 → [] ≡ minus_of (int v)
unfolding int
minus-zero v e = sym (zero-no-minus v.neg v.n e)

pub minus-negative : (v : Int) → (v.n ≡ 0 → ⊥) → v.neg ≡ true → 45 ∷ [] ≡ minus_of (int v)
unfolding minus_of
minus-negative v h e = sym (rw (int-true v e, lt-neg-pos v.n 0 (omega arith)))

pub minus-positive : (v : Int) → v.neg ≡ false → [] ≡ minus_of (int v)
unfolding minus_of
minus-positive v e = sym (rw (int-false v e, le-ltb v.n 0 (omega arith)))

-- the digits of a number, k of them, and a byte
pub number-written : (n : ℕ) {k end : ℕ} {o₀ o₁ o₂ : List ℕ} {e₀ e₁ e₂ : ℕ} → k ≤ 20 → k ≡ digit_count n
    → Written o₀ e₀ (last_digits k n) k o₁ e₁ → Written o₁ e₁ (end ∷ []) 1 o₂ e₂
    → Written o₀ e₀ (digits_of n ++ (end ∷ [])) 21 o₂ e₂
unfolding digits_of digit_count
number-written n {k} {end} few e digits last =
    written_is (ap (λ m. last_digits m n ++ (end ∷ [])) e) (written-most (written-append digits last) (omega arith))

pub fixed-written : (z : ℤ) (n places end : ℕ) {p k : ℕ} {o₀ o₁ o₂ o₃ o₄ o₅ : List ℕ} {e₀ e₁ e₂ e₃ e₄ e₅ : ℕ}
    → nat_abs z ≡ n → p ≡ 10 ^ places → k ≡ digit_count (n / p) → k + places ≤ 20
    → Written o₀ e₀ (minus_of z) 1 o₁ e₁ → Written o₁ e₁ (last_digits k (n / p)) k o₂ e₂ → Written o₂ e₂ (46 ∷ []) 1 o₃ e₃
    → Written o₃ e₃ (last_digits places n) places o₄ e₄ → Written o₄ e₄ (end ∷ []) 1 o₅ e₅
    → Written o₀ e₀ (fixed_text places z ++ (end ∷ [])) 23 o₅ e₅
unfolding fixed_text digits_of digit_count
fixed-written z n places end {p} {k} h q c s minus digits point decimals last =
    let d = written_is (ap (λ (m : ℕ). last_digits m (n / p)) c) digits in
    let t = written-append (written-append minus (written-append d (written-append point decimals))) last in
    rw (h, ← q) (written-most t (omega arith))
