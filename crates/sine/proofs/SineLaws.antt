-- What holds of the sine: the entries never fall, from 0 to 10^9, and no sine is larger than 10^9.
-- Assumes nothing.
use mathlib.Core.Path.{◌≡◌, refl, sym, subst, subst₂}
use mathlib.Core.Bool.{Bool, true, false, cond}
use Prim.Native.Nat.{ℕ, ◌+◌, ◌-◌, ◌%◌, ◌≤◌, ◌<◌}
use native.Mathlib.Nat.{lt_of_le_of_lt, min-le_left}
use native.Mathlib.Omega.{arith}
use borrow.Author.Tests.{lt-ltb}
use lib.Dec.{leb, ltb, lit<}
use lib.IntN.{pos, neg_ℤ, nat_abs}
use Rattle.signed.proofs.SignedLaws.{nat_abs-neg}
use Rattle.sine.specs.Sine.{unit, pi, alternating, series, sine_entry, interpolated, sine_quarter, sine_half, sine_turn, sine_of, cosine_of}
use Rattle.sine.proofs.Tabulate.{tabulate, tabulated, length-tabulate, rises, rises-at}

pub sine_entry-first : sine_entry 0 ≡ 0
unfolding unit pi alternating series sine_entry
sine_entry-first = refl

pub sine_entry-last : sine_entry 900 ≡ 1000000000
unfolding unit pi alternating series sine_entry
sine_entry-last = refl

-- computed over the whole table
entries-rise : rises 0 (tabulate sine_entry 0 901) ≡ true
unfolding unit pi alternating series sine_entry tabulate rises
entries-rise = refl

pub sine_entry-rises : (j k : ℕ) → j ≤ k → k < 901 → sine_entry j ≤ sine_entry k
sine_entry-rises j k l h =
    subst₂ ◌≤◌ (tabulated sine_entry 901 j (lt_of_le_of_lt l h)) (tabulated sine_entry 901 k h)
    (rises-at 0 (tabulate sine_entry 0 901) entries-rise j k l (subst (λ (n : ℕ). k < n) (sym (length-tabulate sine_entry 0 901)) h))

pub sine_entry-le : (k : ℕ) → k < 901 → sine_entry k ≤ 1000000000
sine_entry-le k h = subst (λ (n : ℕ). sine_entry k ≤ n) sine_entry-last (sine_entry-rises k 900 (omega arith) (lit< tt))

pub quarter-le : (angle : ℕ) → sine_quarter angle ≤ 1000000000
unfolding sine_quarter interpolated
quarter-le angle = min-le_left _ _

pub cond-le : (b : Bool) {x y n : ℕ} → x ≤ n → y ≤ n → cond b x y ≤ n
cond-le true h k = h
cond-le false h k = k

pub half_le : (angle : ℕ) → sine_half angle ≤ 1000000000
unfolding sine_half
half_le angle = cond-le (leb angle 90000000) (quarter-le angle) (quarter-le (180000000 - angle))

size_of : (b : Bool) {x y n : ℕ} → x ≤ n → y ≤ n → nat_abs (cond b (pos x) (neg_ℤ (pos y))) ≤ n
size_of true h k = h
size_of false {y = y} h k = omega (arith, nat_abs-neg (pos y))

turn-size : (angle : ℕ) → nat_abs (sine_turn angle) ≤ 1000000000
unfolding sine_turn
turn-size angle = size_of (ltb angle 180000000) (half_le angle) (half_le (angle - 180000000))

pub sine-size : (angle : ℕ) → nat_abs (sine_of angle) ≤ 1000000000
unfolding sine_of
sine-size angle = turn-size (angle % 360000000)

pub cosine-size : (angle : ℕ) → nat_abs (cosine_of angle) ≤ 1000000000
unfolding cosine_of
cosine-size angle = sine-size (angle + 90000000)

-- up to half a turn the sine is not below 0
pub sine-not-negative : (angle : ℕ) → angle < 180000000 → sine_of angle ≡ pos (nat_abs (sine_of angle))
unfolding sine_of sine_turn
sine-not-negative angle h =
    let e : angle % 360000000 ≡ angle = omega arith in
    rw (e, lt-ltb angle 180000000 h) refl
