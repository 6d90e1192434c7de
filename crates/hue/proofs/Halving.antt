-- What the search by halving goes by: the largest number that a test holds for, and that a test which fails for a tenth fails for every later one.
-- Assumes nothing.
use mathlib.Core.Path.{◌≡◌, refl, sym, ap}
use mathlib.Core.Bool.{Bool, true, false}
use Prim.Native.Nat.{ℕ, zero, suc, ◌+◌, ◌-◌, ◌*◌, ◌/◌, ◌≤◌, ◌<◌, zero-le}
use native.Mathlib.Nat.{mul-le-mul_left, mul-zero}
use native.Mathlib.Decide.{le_ind}
use native.Mathlib.Omega.{arith}
use borrow.Author.Tests.{le-leb, lt-leb, leb-true, leb-false}
use Rattle.sine.specs.Sine.{sine_entry}
use Rattle.sine.proofs.SineLaws.{sine_entry-first, sine_entry-rises}
use Rattle.hue.specs.Hue.{largest, reaches}

pub largest-here : (p : ℕ → Bool) (n : ℕ) → p n ≡ true → largest p n ≡ n
unfolding largest
largest-here p zero h = refl
largest-here p (suc n) h = rw h

-- p fails above m up to n
pub largest-cut : (p : ℕ → Bool) (m n : ℕ) → m ≤ n → ((k : ℕ) → m < k → k ≤ n → p k ≡ false) → largest p n ≡ largest p m
unfolding largest
largest-cut p m n l =
    le_ind (λ (i : ℕ). ((k : ℕ) → m < k → k ≤ i → p k ≡ false) → largest p i ≡ largest p m)
    (λ f. refl)
    (λ i l' ih f. rw (f (suc i) (omega arith) (omega arith)) (ih (λ k u v. f k u (omega arith))))
    n l

-- (x, y) reaches 0 tenths, and what does not reach j reaches nothing after it
pub reaches-first : (x y : ℕ) → reaches x y 0 ≡ true
unfolding reaches
reaches-first x y = le-leb (x * sine_entry 0) (y * sine_entry 900) (rw (sine_entry-first, mul-zero x) zero-le)

pub reaches-falls : (x y j k : ℕ) → j ≤ k → k ≤ 900 → reaches x y j ≡ false → reaches x y k ≡ false
unfolding reaches
reaches-falls x y j k l h e =
    lt-leb (x * sine_entry k) (y * sine_entry (900 - k))
    (omega (
      arith,
      leb-false (x * sine_entry j) (y * sine_entry (900 - j)) e,
      mul-le-mul_left x (sine_entry-rises j k l (omega arith)),
      mul-le-mul_left y (sine_entry-rises (900 - k) (900 - j) (omega arith) (omega arith)),
    ))

-- with s and c the sine and the cosine of k tenths
pub reached-le : (x y k : ℕ) {s c : ℕ} → reaches x y k ≡ true → s ≡ sine_entry k → c ≡ sine_entry (900 - k) → x * s ≤ y * c
unfolding reaches
reached-le x y k {s} {c} h e f = leb-true (x * s) (y * c) (rw (e, f) h)

-- what lies past a tenth that is not reached is dropped
pub cut :
    (x y k m n : ℕ) → k ≤ m + 1 → m ≤ n → n ≤ 900 → reaches x y k ≡ false →
    largest (reaches x y) n ≡ largest (reaches x y) m
cut x y k m n u v w e =
    largest-cut (reaches x y) m n v (λ i l h. reaches-falls x y k i (omega arith) (omega arith) e)

-- the search ends where one tenth is left
pub met : (p : ℕ → Bool) {low width : ℕ} → width ≡ 0 → p low ≡ true → low ≡ largest p (low + width)
met p {low} {width} e h =
    let f : low + width ≡ low = omega arith in
    rw f (sym (largest-here p low h))

-- what is known of the half that is kept: its first tenth is reached, and it holds what the whole did
pub record Kept (x y low width next : ℕ) : Type 0 where
  pub within : next + width / 2 ≤ low + width
  pub first : reaches x y next ≡ true
  pub same : largest (reaches x y) (low + width) ≡ largest (reaches x y) (next + width / 2)

module _ (x y low width : ℕ) {mid next : ℕ} (half : mid ≡ low + (width - width / 2)) (fits : low + width ≤ 899) where
  pub upper : reaches x y mid ≡ true → next ≡ mid → Kept x y low width next
  upper h e =
      let f : low + width ≡ next + width / 2 = omega arith in
      record { within = omega arith; first = rw e h; same = ap (largest (reaches x y)) f }

  pub lower : reaches x y low ≡ true → reaches x y mid ≡ false → next ≡ low → Kept x y low width next
  lower h g e = record {
    within = omega arith;
    first = rw e h;
    same = cut x y mid (next + width / 2) (low + width) (omega arith) (omega arith) (omega arith) g;
  }
