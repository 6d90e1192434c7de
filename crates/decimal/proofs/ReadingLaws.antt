-- What each reader makes of what the readers below it found.
use mathlib.Core.Path.{◌≡◌, refl, sym, ap, ◌∙◌}
use mathlib.Core.Bool.{Bool, true, false}
use mathlib.Core.List.{List}
use Prim.Native.Nat.{ℕ, zero, suc, ◌+◌, ◌-◌, ◌*◌, ◌^◌, ◌≤◌, ◌<◌}
use native.Mathlib.Numerals.{add-one}
use native.Mathlib.Nat.{pow-suc, pow-le-pow_right, one-le-pow, mul-lt-mul_of_pos_right}
use native.Mathlib.Omega.{arith}
use lib.Dec.{lit<}
use lib.Pow.{pow-add}
use borrow.Author.Tests.{lt-ltb, le-ltb, eq-eqb, ne_eqb}
use Rattle.signed.specs.Value.{with_sign}
use Rattle.decimal.specs.Reading.{starts, after, digit_first, Found, found, missing, and_then, run_on, run_of}
use Rattle.decimal.specs.Reading.{fraction_run, fraction_of, whole_run, decimal_of}
use Rattle.decimal.specs.Inner.{run_in}
use Rattle.decimal.specs.declared.Digits.{Digits}

-- a run takes a digit, and stops where there is none or enough were taken
pub run-turn : (bs : List ℕ) (most v n d : ℕ) {more : List ℕ} → d ≡ digit_first bs → d < 10 → n < most → more ≡ after bs
    → run_on (most - (n + 1)) (10 * v + d) (n + 1) more ≡ run_on (most - n) v n bs
unfolding run_on
run-turn bs most v n d e h k f =
    let m : most - n ≡ suc (most - (n + 1)) = omega arith in
    let few : digit_first bs < 10 = omega (arith, e) in
    rw (m, f, e) (sym (simp (lt-ltb _ _ few)))

pub run-stop : (most v n : ℕ) (bs : List ℕ) → 10 ≤ digit_first bs
    → run_on most v n bs ≡ record { value = v; count = n; rest = bs }
unfolding run_on
run-stop zero v n bs h = refl
run-stop (suc most) v n bs h = simp (le-ltb _ _ h)

pub run_end : {k : ℕ} (v n : ℕ) (bs : List ℕ) → k ≡ 0 → run_on k v n bs ≡ record { value = v; count = n; rest = bs }
unfolding run_on
run_end v n bs e = rw e

-- a number of n digits is below 10 ^ n
pub value-turn : (v n d : ℕ) → v < 10 ^ n → d < 10 → 10 * v + d < 10 ^ (n + 1)
value-turn v n d h k = rw (add-one n, pow-suc 10 n) (omega arith)

pub digits-below : {v n : ℕ} (m : ℕ) → v < 10 ^ n → n ≤ m → v < 10 ^ m
digits-below {v} {n} m h k = let p : 10 ^ n ≤ 10 ^ m = pow-le-pow_right (lit< tt) k in omega arith

-- n decimals in 1/10,000
pub fraction-below : (v n : ℕ) → v < 10 ^ n → n ≤ 4 → v * 10 ^ (4 - n) < 10000
fraction-below v n h k =
    let e : n + (4 - n) ≡ 4 = omega arith in
    rw (← pow-add 10 n (4 - n), e) at (mul-lt-mul_of_pos_right h (one-le-pow (4 - n) 10 (lit< tt)))

-- ---- from what was read of each part

-- the decimals after the point
module _ (s : List ℕ) where
  pub fraction-absent : starts 46 s ≡ false → fraction_of s ≡ found 0 s
  unfolding fraction_of
  fraction-absent e = rw e

  module _ {more : List ℕ} (e : starts 46 s ≡ true) (f : more ≡ after s) where
    fraction-point : fraction_of s ≡ fraction_run (run_of 4 more)
    unfolding fraction_of
    fraction-point = rw (e, ← f)

    pub fraction-empty : (run_of 4 more).count ≡ 0 → fraction_of s ≡ missing
    unfolding fraction_run
    fraction-empty g = fraction-point ∙ rw (eq-eqb _ _ g)

    pub fraction-some : (d : Digits) → run_in d ≡ run_of 4 more → 0 < d.count
        → fraction_of s ≡ found (d.value * 10 ^ (4 - d.count)) d.rest.now
    unfolding fraction_run
    fraction-some d g h =
        let some : d.count ≡ 0 → ⊥ = λ z. omega arith in
        fraction-point ∙ ap fraction_run (sym g) ∙ rw (ne_eqb _ _ some)

module _ (s : List ℕ) (neg : Bool) where
  pub whole-empty : (run_of 3 s).count ≡ 0 → missing ≡ whole_run neg (run_of 3 s)
  unfolding whole_run
  whole-empty e = sym (rw (eq-eqb _ _ e))

  pub whole-some : (d : Digits) → run_in d ≡ run_of 3 s → 0 < d.count → {f : Found ℕ} → fraction_of d.rest.now ≡ f
      → and_then f (λ n rest. found (with_sign neg (d.value * 10000 + n)) rest) ≡ whole_run neg (run_of 3 s)
  unfolding whole_run
  whole-some d e h g =
      let some : d.count ≡ 0 → ⊥ = λ z. omega arith in
      sym (ap (whole_run neg) (sym e) ∙ rw (ne_eqb _ _ some, g))

pub decimal-minus : (s : List ℕ) {more : List ℕ} → starts 45 s ≡ true → more ≡ after s
    → whole_run true (run_of 3 more) ≡ decimal_of s
unfolding decimal_of
decimal-minus s e f = sym (rw (e, ← f))

pub decimal-plain : (s : List ℕ) → starts 45 s ≡ false → whole_run false (run_of 3 s) ≡ decimal_of s
unfolding decimal_of
decimal-plain s e = sym (rw e)
