-- From a float that holds a number of halves to the nearest whole number: what cutting it and comparing it with what was cut say. Assumes nothing.
use Rattle.std.proofs.Common.{◌≡◌, ℕ, ◌+◌, ◌-◌, ◌*◌, ◌/◌, ◌%◌, ◌^◌, ◌<◌, ◌≤◌, min, Bool, true, false, ◌&&◌, T, pos, sym, refl, ap, ◌∙◌, subst, true≢false, le_trans, le_of_eq, lt_of_lt_of_le, le_of_lt, mul-le-mul_right, mul_assoc, div-lt_iff_lt-mul, add-mul, mul-pos, mul_right_comm, div-mul-le_self, le_of_mul-le-mul_right, arith, lit≤, le→leb, lt→ltb, eqb-true}
use native.Mathlib.Nat.{eq_of_mul-eq-mul_right}
use native.Mathlib.Nat.{lt-div-mul-add}
use lib.Ieee.{Float, nan, inf, fin, binary64, up, down, lt, eq, of_int, to_unsigned, in_float}
use lib.Ieee.Fits.{down_pos}
use lib.Ieee.Exact.{HasValue}
use lib.Ieee.Back.{round_whole}
use lib.Ieee.Nearest.{div_same}
use lib.Ieee.Positive.{num, den, den_pos}
use lib.Ieee.Scale.{finite}
use borrow.Author.Tests.{eqb-false}
use Rattle.fixed_point.specs.Rounding.{half_of, nearest_of, fixed_size}
use Rattle.fixed_point.specs.Inner.{AtMost}
use Rattle.fixed_point.proofs.NearestEven.{is_below, is-half, is-above, nearest-unique}

-- ---- the arithmetic: n / c to the nearest, from t, the whole part of 2 n / c
module _ (n c : ℕ) (C : 0 < c) (t : ℕ) (e : t ≡ 2 * n / c) where
  least : t * c ≤ 2 * n
  least = subst (λ (k : ℕ). k * c ≤ 2 * n) (sym e) (div-mul-le_self (2 * n) c)

  next : 2 * n < t * c + c
  next = subst (λ (k : ℕ). 2 * n < k * c + c) (sym e) (lt-div-mul-add C)

  halved : (r : ℕ) → t ≡ 2 * (t / 2) + r → t * c ≡ 2 * (t / 2 * c) + r * c
  halved r p = ap (λ (k : ℕ). k * c) p ∙ omega (arith, add-mul (2 * (t / 2)) r c, mul_assoc 2 (t / 2) c)

  odd : (t % 2 ≡ 0 → ⊥) → t * c ≡ 2 * (t / 2 * c) + c
  odd p = omega (arith, halved 1 (omega arith))

  pub nearest-even : t % 2 ≡ 0 → t / 2 ≡ nearest_of n c
  nearest-even p =
      let is : t * c ≡ 2 * (t / 2 * c) + 0 * c = halved 0 (omega arith) in
      nearest-unique n c C (is_below n c C (t / 2) (omega (arith, least)) (omega (arith, next)))

  pub nearest-half : (t % 2 ≡ 0 → ⊥) → 2 * n ≡ t * c → half_of (t / 2) ≡ nearest_of n c
  nearest-half p h = nearest-unique n c C (is-half n c C (t / 2) (h ∙ odd p))

  pub nearest-above : (t % 2 ≡ 0 → ⊥) → (2 * n ≡ t * c → ⊥) → t / 2 + 1 ≡ nearest_of n c
  nearest-above p h = nearest-unique n c C (is-above n c C (t / 2) (omega (arith, least, odd p)) (omega (arith, next, odd p)))

-- ---- the float w, which is a / c
abbrev pub PartsIn : ℕ → ℕ → Type 0
PartsIn a c = (0 < c) × (a ≤ 2560000 * c)

-- m / d is a / c, so it is below what a / c is
size_small : (m d a c : ℕ) → PartsIn a c → m * c ≡ a * d → m ≤ 2560000 * d
size_small m d a c s e =
    le_of_mul-le-mul_right {k = c} (le_trans (le_of_eq e) (le_trans (mul-le-mul_right d s.1) (le_of_eq (mul_right_comm 2560000 c d)))) s.0

in-range : (m d : ℕ) → 0 < d → m ≤ 2560000 * d → m * 1 < 1 * 2 ^ 64 * d
in-range m d p h = omega arith

above_minus_one : (m d : ℕ) → 0 < d → 0 < 1 * 1 * d + m * 1
above_minus_one m d p = omega arith

pub cut-asks : (w : Float) (a c : ℕ) → PartsIn a c → HasValue w false a c → T (lt (fin true 1 (pos 0)) w) × T (lt w (fin false 1 (pos 64)))
unfolding lt
cut-asks nan a c s v = absurd v
cut-asks (inf t) a c s v = absurd v
cut-asks (fin true m e) a c s v = absurd (true≢false v.0)
cut-asks (fin false m e) a c s v = (
  lt→ltb 0 (1 * 1 * down e + m * up e * 1) (above_minus_one (m * up e) (down e) (down_pos e)),
  lt→ltb (m * up e * 1)
      (1 * 2 ^ 64 * down e) (in-range (m * up e) (down e) (down_pos e) (size_small (m * up e) (down e) a c s v.1)),
)

uncapped : (t : ℕ) → t < 2 ^ 64 → min t (2 ^ 64 - 1) ≡ t
uncapped t h = omega arith

pub cut_small : (a c : ℕ) → PartsIn a c → a / c < 2560001
cut_small a c s = (div-lt_iff_lt-mul s.0).1 (go a c s.0 s.1)
  where
    go : (a c : ℕ) → 0 < c → a ≤ 2560000 * c → a < 2560001 * c
    go a c p h = omega arith

pub cut-is : (w : Float) (a c : ℕ) → PartsIn a c → HasValue w false a c → to_unsigned 64 w ≡ a / c
unfolding to_unsigned
cut-is nan a c s v = absurd v
cut-is (inf t) a c s v = absurd v
cut-is (fin true m e) a c s v = absurd (true≢false v.0)
cut-is (fin false m e) a c s v =
    let same : m * up e / down e ≡ a / c = div_same (m * up e) (down e) a c (down_pos e) s.0 v.1 in
    let l : a / c < 2 ^ 64 = lt_of_lt_of_le (cut_small a c s) (lit≤ tt) in
    ap (λ (x : ℕ). min x (2 ^ 64 - 1)) same ∙ uncapped (a / c) l

-- ---- the float compared with a whole number t
-- u / d is a / c, and v / g is t
cross : (u d v g a c t : ℕ) → 0 < d → 0 < g → u * c ≡ a * d → v * 1 ≡ t * g → u * g ≡ v * d → a ≡ t * c
cross u d v g a c t D G p q h =
    let p' : u * c * g ≡ a * d * g = ap (λ (x : ℕ). x * g) p in
    let q' : v * 1 * (d * c) ≡ t * g * (d * c) = ap (λ (x : ℕ). x * (d * c)) q in
    let h' : u * g * c ≡ v * d * c = ap (λ (x : ℕ). x * c) h in
    eq_of_mul-eq-mul_right (d * g) (mul-pos D G) a (t * c) (omega arith)

cross-back : (u d v g a c t : ℕ) → 0 < c → u * c ≡ a * d → v * 1 ≡ t * g → a ≡ t * c → u * g ≡ v * d
cross-back u d v g a c t C p q h =
    let h' : a * d ≡ t * c * d = ap (λ (x : ℕ). x * d) h in
    let u-is : u ≡ t * d = eq_of_mul-eq-mul_right c C u (t * d) (omega arith) in
    let u' : u * g ≡ t * d * g = ap (λ (x : ℕ). x * g) u-is in
    let q' : v * 1 * d ≡ t * g * d = ap (λ (x : ℕ). x * d) q in
    omega arith

pub whole-value : (t : ℕ) → t < 2560001 → HasValue (of_int binary64 (pos t)) false t 1
unfolding of_int
whole-value t h = round_whole binary64 false t (le_trans (le_of_lt h) (lit≤ tt))

pub cast-asks : (t : ℕ) → t < 2560001 → T (in_float binary64 (pos t))
unfolding in_float
cast-asks t h = le→leb t (2 ^ 53) (le_trans (le_of_lt h) (lit≤ tt))

left-true : (p : Bool) → (p && true) ≡ true → p ≡ true
left-true true h = refl
left-true false h = h

left_false : (p : Bool) → (p && true) ≡ false → p ≡ false
left_false true h = h
left_false false h = refl

pub equal-whole : (w z : Float) (a c t : ℕ) → HasValue w false a c → HasValue z false t 1 → eq w z ≡ true → a ≡ t * c
unfolding eq
equal-whole nan z a c t v k h = absurd v
equal-whole (inf s) z a c t v k h = absurd v
equal-whole (fin true m e) z a c t v k h = absurd (true≢false v.0)
equal-whole (fin false m e) nan a c t v k h = absurd k
equal-whole (fin false m e) (inf s) a c t v k h = absurd k
equal-whole (fin false m e) (fin true n d) a c t v k h = absurd (true≢false k.0)
equal-whole (fin false m e) (fin false n d) a c t v k h =
    cross (m * up e) (down e) (n * up d) (down d) a c t (down_pos e) (down_pos d) v.1 k.1
    (eqb-true (m * up e * down d) (n * up d * down e) (left-true _ h))

pub unequal-whole : (w z : Float) (a c t : ℕ) → 0 < c → HasValue w false a c → HasValue z false t 1 → eq w z ≡ false → a ≡ t * c → ⊥
unfolding eq
unequal-whole nan z a c t C v k h e = v
unequal-whole (inf s) z a c t C v k h e = v
unequal-whole (fin true m i) z a c t C v k h e = true≢false v.0
unequal-whole (fin false m i) nan a c t C v k h e = k
unequal-whole (fin false m i) (inf s) a c t C v k h e = k
unequal-whole (fin false m i) (fin true n d) a c t C v k h e = true≢false k.0
unequal-whole (fin false m i) (fin false n d) a c t C v k h e =
    eqb-false (m * up i * down d) (n * up d * down i) (left_false _ h) (cross-back (m * up i) (down i) (n * up d) (down d) a c t C v.1 k.1 e)

-- ---- for the size of x, num x / den x, with N = 10,000 num x
pub small : (x : Float) → AtMost 128 x → PartsIn (num x * 20000) (den x)
small x h = (den_pos x, go (num x) (den x) h.size)
  where
    go : (n d : ℕ) → n ≤ 128 * d → n * 20000 ≤ 2560000 * d
    go n d k = omega arith

doubled : (n : ℕ) → n * 20000 ≡ 2 * (10000 * n)
doubled n = omega arith

size_is : (x : Float) → T (finite x) → fixed_size x ≡ nearest_of (10000 * num x) (den x)
unfolding fixed_size
size_is nan t = absurd t
size_is (inf s) t = absurd t
size_is (fin s m e) t = refl

module _ (x : Float) (h : AtMost 128 x) (t : ℕ) (e : t ≡ num x * 20000 / den x) where
  halves_are : t ≡ 2 * (10000 * num x) / den x
  halves_are = e ∙ ap (λ (n : ℕ). n / den x) (doubled (num x))

  pub size-even : t % 2 ≡ 0 → t / 2 ≡ fixed_size x
  size-even p = nearest-even (10000 * num x) (den x) (den_pos x) t halves_are p ∙ sym (size_is x h.is_finite)

  pub size-half : (t % 2 ≡ 0 → ⊥) → num x * 20000 ≡ t * den x → half_of (t / 2) ≡ fixed_size x
  size-half p q =
      nearest-half (10000 * num x) (den x) (den_pos x) t halves_are p (sym (doubled (num x)) ∙ q) ∙ sym (size_is x h.is_finite)

  pub size_above : (t % 2 ≡ 0 → ⊥) → (num x * 20000 ≡ t * den x → ⊥) → t / 2 + 1 ≡ fixed_size x
  size_above p q =
      nearest-above (10000 * num x) (den x) (den_pos x) t halves_are p (λ z. q (doubled (num x) ∙ z)) ∙ sym (size_is x h.is_finite)
