-- What acceptance says of the whole numbers that come out: the limits in 1/10,000. Callers use these laws and not the
-- definitions' text.
-- Assumes nothing.
use Rattle.std.proofs.Common.{◌≡◌, ℕ, zero, suc, ◌+◌, ◌*◌, ◌^◌, ◌<◌, ◌≤◌, Bool, true, false, cond, not, ◌&&◌, ◌||◌, T, eqb, ltb, ◌⊎◌, ℤ, pos, negsuc, nat_abs, sym, refl, ap, subst, inl, inr, zero-le, le_trans, le_of_eq, le_of_lt, mul-le-mul_right, zero-lt-suc, mul_assoc, mul-le-mul_left, mul-pos, arith, eqb→eq, ltb→lt, le-ltb, lt-ltb}
use lib.Ieee.{Float, nan, inf, fin, up, down, le, lt}
use lib.Ieee.Fits.{and_l, and_r, up_pos, down_pos}
use lib.Ieee.Scale.{finite}
use lib.Ieee.Positive.{num, den}
use Rattle.signed.specs.Value.{with_sign}
use Rattle.signed.specs.declared.Int.{Int}
use Rattle.signed.specs.Inner.{int}
use Rattle.signed.proofs.SignedLaws.{size_of}
use Rattle.fixed_point.specs.Limits.{within, lightness_in, opponent_in, weight_in, tolerance_in}
use Rattle.fixed_point.specs.Inner.{AtMost}
use Rattle.fixed_point.specs.Rounding.{fixed_size, fixed_of}
use Rattle.fixed_point.proofs.NearestEven.{nearest-le, nearest-ge}
use Rattle.fixed_point.specs.Refusals.{reading_refusal, weights_refusal, tolerance_refusal}
use Rattle.fixed_point.specs.Samples.{sample_of, weights_of}
use Rattle.sample.specs.Inner.{SampleIn, WeightIn, WeightsIn}
use Rattle.fixed_point.specs.declared.Reading.{Reading}
use Rattle.fixed_point.specs.declared.Weights.{Weights}

-- ---- the rounding
pub fixed_size-le : (n : ℕ) (x : Float) → AtMost n x → fixed_size x ≤ 10000 * n
unfolding fixed_size
fixed_size-le n nan h = absurd h.is_finite
fixed_size-le n (inf s) h = absurd h.is_finite
fixed_size-le n (fin s m e) h = nearest-le (10000 * (m * up e)) (down e) (down_pos e) (10000 * n)
    (le_trans (mul-le-mul_left 10000 h.size) (le_of_eq (sym (mul_assoc 10000 n (down e)))))

fixed_size-ge : (n : ℕ) (x : Float) → T (finite x) → n * den x ≤ 10000 * num x → n ≤ fixed_size x
unfolding fixed_size
fixed_size-ge n nan t h = absurd t
fixed_size-ge n (inf s) t h = absurd t
fixed_size-ge n (fin s m e) t h = nearest-ge (10000 * (m * up e)) (down e) (down_pos e) n h

-- ---- the sign: what rounds to 0 has none
no_sign : (s t : Bool) (n : ℕ) → n ≡ 0 → with_sign s n ≡ with_sign t n
no_sign s t n z = subst (λ (k : ℕ). with_sign s k ≡ with_sign t k) (sym z) (both s t)
  where
    both : (s t : Bool) → with_sign s 0 ≡ with_sign t 0
    both true true = refl
    both true false = refl
    both false true = refl
    both false false = refl

zero-is-zero : (s : Bool) (e : ℤ) → fixed_size (fin s 0 e) ≡ 0
zero-is-zero s e = least (fixed_size-le 0 (fin s 0 e) (record { is_finite = tt; size = none (up e) (down e) }))
  where
    none : (u d : ℕ) → 0 * u ≤ 0 * d
    none u d = omega arith

    least : {k : ℕ} → k ≤ 10000 * 0 → k ≡ 0
    least {k} h = omega arith

-- a program tests the sign by x < 0, which -0 fails
pub sign-is : (x : Float) → T (finite x) → with_sign (lt x (fin false 0 (pos 0))) (fixed_size x) ≡ fixed_of x
unfolding lt fixed_of
sign-is nan t = absurd t
sign-is (inf s) t = absurd t
sign-is (fin false m e) t = ap (λ (b : Bool). with_sign b (fixed_size (fin false m e))) (le-ltb (m * up e * 1) (0 * down e) (under (m * up e) (down e)))
  where
    under : (a d : ℕ) → 0 * d ≤ a * 1
    under a d = omega arith
sign-is (fin true zero e) t = no_sign (ltb 0 (0 * up e * 1 + 0 * down e)) true (fixed_size (fin true 0 e)) (zero-is-zero true e)
sign-is (fin true (suc m) e) t = ap (λ (b : Bool). with_sign b (fixed_size (fin true (suc m) e)))
    (lt-ltb 0 (suc m * up e * 1 + 0 * down e) (above (suc m * up e) (down e) (mul-pos (zero-lt-suc m) (up_pos e))))
  where
    above : (a d : ℕ) → 0 < a → 0 < a * 1 + 0 * d
    above a d h = omega arith

sign-size : (s : Bool) (n : ℕ) → nat_abs (with_sign s n) ≡ n
sign-size false n = refl
sign-size true zero = refl
sign-size true (suc n) = refl

pub fixed-of-size : (x : Float) → nat_abs (fixed_of x) ≡ fixed_size x
unfolding fixed_of fixed_size
fixed-of-size nan = refl
fixed-of-size (inf s) = refl
fixed-of-size (fin s m e) = sign-size s (fixed_size (fin s m e))

-- ---- the limits as sizes
or_split : (a b : Bool) → T (a || b) → T a ⊎ T b
or_split true b t = inl tt
or_split false b t = inr t

either-le : (a b : ℕ) (p : Bool) → T (ltb a b || (eqb a b && p)) → a ≤ b
either-le a b p t = elim (or_split (ltb a b) (eqb a b && p) t)
    [ inl u ↦ le_of_lt (ltb→lt a b u) | inr u ↦ le_of_eq (eqb→eq a b (and_l (eqb a b) p u)) ]

either-ge : (a b : ℕ) (p : Bool) → T (ltb b a || (eqb a b && p)) → b ≤ a
either-ge a b p t = elim (or_split (ltb b a) (eqb a b && p) t)
    [ inl u ↦ le_of_lt (ltb→lt b a u) | inr u ↦ le_of_eq (sym (eqb→eq a b (and_l (eqb a b) p u))) ]

plain : (a k d : ℕ) → a * 1 ≤ k * d → a ≤ k * d
plain a k d h = omega arith

-- what a `le` against a limit that is a whole number, n * 2 ^ k, says of a positive number
at_most-high : (n k m : ℕ) (e : ℤ) → T (le (fin false m e) (fin false n (pos k))) → m * up e ≤ n * 2 ^ k * down e
unfolding le
at_most-high n k m e t = plain (m * up e) (n * 2 ^ k) (down e) (either-le (m * up e * 1) (n * 2 ^ k * down e) true t)

-- of a negative one, against minus such a number
at_most-low : (n k m : ℕ) (e : ℤ) → T (le (fin true n (pos k)) (fin true m e)) → m * up e ≤ n * 2 ^ k * down e
unfolding le
at_most-low n k m e t = plain (m * up e) (n * 2 ^ k) (down e) (either-ge (n * 2 ^ k * down e) (m * up e * 1) true t)

-- a number with a minus that is not below zero is zero
minus-zero : (m : ℕ) (e : ℤ) → T (le (fin false 0 (pos 0)) (fin true m e)) → m * up e ≤ 0
unfolding le
minus-zero m e t = none (m * up e) (down e) (eqb→eq (0 * down e) (m * up e * 1) (and_l (eqb (0 * down e) (m * up e * 1)) (eqb (0 * down e) 0) t))
  where
    none : (a d : ℕ) → 0 * d ≡ a * 1 → a ≤ 0
    none a d h = omega arith

-- no number with a minus reaches 0.5
not-half : (m : ℕ) (e : ℤ) → T (le (fin false 1 (negsuc 0)) (fin true m e)) → ⊥
unfolding le
not-half m e t =
    none (down e) (down_pos e) (eqb→eq (1 * down e) 0 (and_r (eqb (1 * down e) (m * up e * 2)) (eqb (1 * down e) 0) t))
  where
    none : (d : ℕ) → 0 < d → 1 * d ≡ 0 → ⊥
    none d h z = omega arith

at-least-half : (m : ℕ) (e : ℤ) → T (le (fin false 1 (negsuc 0)) (fin false m e)) → down e ≤ 2 * (m * up e)
unfolding le
at-least-half m e t = twice (m * up e) (down e) (either-le (1 * down e) (m * up e * 2) true t)
  where
    twice : (a d : ℕ) → 1 * d ≤ a * 2 → d ≤ 2 * a
    twice a d h = omega arith

-- a limit lets in no NaN and no infinity
finite-within : (low high x : Float) → T (finite low) → T (finite high) → T (within low high x) → T (finite x)
unfolding le
finite-within low high (fin s m e) p q t = tt
finite-within nan high nan p q t = elim p [ ]
finite-within (inf _) high nan p q t = elim p [ ]
finite-within (fin s m e) nan nan p q t = elim q [ ]
finite-within (fin s m e) (inf _) nan p q t = elim q [ ]
finite-within nan high (inf _) p q t = elim p [ ]
finite-within (inf _) high (inf _) p q t = elim p [ ]
finite-within (fin s m e) nan (inf _) p q t = elim q [ ]
finite-within (fin s m e) (inf _) (inf _) p q t = elim q [ ]
finite-within (fin s m e) (fin u n d) nan p q t = t
finite-within (fin s m e) (fin u n d) (inf true) p q t = and_l (le (fin s m e) (inf true)) (le (inf true) (fin u n d)) t
finite-within (fin s m e) (fin u n d) (inf false) p q t = and_r (le (fin s m e) (inf false)) (le (inf false) (fin u n d)) t

pub opponent-size : (x : Float) → T (opponent_in x) → AtMost 128 x
opponent-size x t = record { is_finite = finite-within (fin true 1 (pos 7)) (fin false 1 (pos 7)) x tt tt t; size = go x t }
  where
    go : (x : Float) → T (opponent_in x) → num x ≤ 128 * den x
    go nan t = zero-le
    go (inf s) t = zero-le
    go (fin false m e) t = at_most-high 1 7 m e (and_r (le (fin true 1 (pos 7)) (fin false m e)) (le (fin false m e) (fin false 1 (pos 7))) t)
    go (fin true m e) t = at_most-low 1 7 m e (and_l (le (fin true 1 (pos 7)) (fin true m e)) (le (fin true m e) (fin false 1 (pos 7))) t)

-- from 0 to 100: a lightness, and a tolerance
pub lightness-size : (x : Float) → T (lightness_in x) → AtMost 100 x
lightness-size x t = record { is_finite = finite-within (fin false 0 (pos 0)) (fin false 25 (pos 2)) x tt tt t; size = go x t }
  where
    go : (x : Float) → T (lightness_in x) → num x ≤ 100 * den x
    go nan t = zero-le
    go (inf s) t = zero-le
    go (fin false m e) t = at_most-high 25 2 m e (and_r (le (fin false 0 (pos 0)) (fin false m e)) (le (fin false m e) (fin false 25 (pos 2))) t)
    go (fin true m e) t = le_trans
        (minus-zero m e (and_l (le (fin false 0 (pos 0)) (fin true m e)) (le (fin true m e) (fin false 25 (pos 2))) t)) zero-le

pub weight-size : (x : Float) → T (weight_in x) → AtMost 10 x
weight-size x t = record { is_finite = finite-within (fin false 1 (negsuc 0)) (fin false 5 (pos 1)) x tt tt t; size = go x t }
  where
    go : (x : Float) → T (weight_in x) → num x ≤ 10 * den x
    go nan t = zero-le
    go (inf s) t = zero-le
    go (fin false m e) t = at_most-high 5 1 m e (and_r (le (fin false 1 (negsuc 0)) (fin false m e)) (le (fin false m e) (fin false 5 (pos 1))) t)
    go (fin true m e) t = absurd (not-half m e (and_l (le (fin false 1 (negsuc 0)) (fin true m e)) (le (fin true m e) (fin false 5 (pos 1))) t))

pub at_most-128 : {n : ℕ} {x : Float} → n ≤ 128 → AtMost n x → AtMost 128 x
at_most-128 {n} {x} h a = record { is_finite = a.is_finite; size = le_trans a.size (mul-le-mul_right (den x) h) }

weight-fixed : (x : Float) → T (weight_in x) → WeightIn (fixed_size x)
weight-fixed x t = record { low = fixed_size-ge 5000 x (weight-size x t).is_finite (go x t); high = fixed_size-le 10 x (weight-size x t) }
  where
    half : (a d : ℕ) → d ≤ 2 * a → 5000 * d ≤ 10000 * a
    half a d h = omega arith

    go : (x : Float) → T (weight_in x) → 5000 * den x ≤ 10000 * num x
    go nan t = absurd (weight-size nan t).is_finite
    go (inf s) t = absurd (weight-size (inf s) t).is_finite
    go (fin false m e) t = half (m * up e) (down e)
        (at-least-half m e (and_l (le (fin false 1 (negsuc 0)) (fin false m e)) (le (fin false m e) (fin false 5 (pos 1))) t))
    go (fin true m e) t = absurd (not-half m e (and_l (le (fin false 1 (negsuc 0)) (fin true m e)) (le (fin true m e) (fin false 5 (pos 1))) t))

-- ---- what no refusal says
-- the flags of a refusal that is 0
passed : (b : Bool) (n k : ℕ) → cond (not b) (suc n) k ≡ 0 → T b × (k ≡ 0)
passed true n k e = (tt, e)
passed false n k e = absurd (suc-not-zero e)
  where
    suc-not-zero : {n : ℕ} → suc n ≡ 0 → ⊥
    suc-not-zero {n} h = omega arith

both-passed : (a b : Bool) (n k : ℕ) → cond (not a || not b) (suc n) k ≡ 0 → T a × T b × (k ≡ 0)
both-passed true b n k e = let r = passed b n k e in (tt, r.0, r.1)
both-passed false b n k e = absurd (passed false n k e).0

all-passed : (a b c : Bool) (n k : ℕ) → cond (not a || not b || not c) (suc n) k ≡ 0 → T a × T b × T c × (k ≡ 0)
all-passed true b c n k e = let r = both-passed b c n k e in (tt, r.0, r.1, r.2)
all-passed false b c n k e = absurd (passed false n k e).0

pub record Accepted (r : Reading) : Type 0 where
  pub l : T (lightness_in r.l)
  pub a : T (opponent_in r.a)
  pub b : T (opponent_in r.b)

pub reading-accepted : (r : Reading) → reading_refusal r ≡ 0 → Accepted r
unfolding reading_refusal
reading-accepted r e =
    let f = all-passed (finite r.l) (finite r.a) (finite r.b) 0 _ e in
    let l = passed (lightness_in r.l) 1 _ f.3 in
    let ab = both-passed (opponent_in r.a) (opponent_in r.b) 2 0 l.1 in
    record { l = l.0; a = ab.0; b = ab.1 }

pub record AcceptedWeights (w : Weights) : Type 0 where
  pub l : T (weight_in w.l)
  pub c : T (weight_in w.c)
  pub h : T (weight_in w.h)

pub weights-accepted : (w : Weights) → weights_refusal w ≡ 0 → AcceptedWeights w
unfolding weights_refusal
weights-accepted w e = let f = all-passed (weight_in w.l) (weight_in w.c) (weight_in w.h) 3 0 e in record { l = f.0; c = f.1; h = f.2 }

pub tolerance-accepted : (t : Float) → tolerance_refusal t ≡ 0 → T (tolerance_in t)
unfolding tolerance_refusal
tolerance-accepted t e = (passed (tolerance_in t) 4 0 e).0

-- ---- the bounds in whole numbers
pub sample_in : (r : Reading) → reading_refusal r ≡ 0 → SampleIn (sample_of r)
unfolding sample_of
sample_in r e =
    let k = reading-accepted r e in
    record {
      l = fixed_size-le 100 r.l (lightness-size r.l k.l);
      a = le_trans (le_of_eq (fixed-of-size r.a)) (fixed_size-le 128 r.a (opponent-size r.a k.a));
      b = le_trans (le_of_eq (fixed-of-size r.b)) (fixed_size-le 128 r.b (opponent-size r.b k.b));
    }

-- what an accepted reading is rounded to is within a sample's bounds
pub lab_within : (r : Reading) {l : ℕ} (a b : Int) → reading_refusal r ≡ 0 → l ≡ fixed_size r.l → int a ≡ fixed_of r.a → int b ≡ fixed_of r.b
    → (l ≤ 1000000) × (a.n ≤ 1280000) × (b.n ≤ 1280000)
unfolding sample_of
lab_within r {l} a b e el ea eb =
    let within = sample_in r e in (
      subst (λ (n : ℕ). n ≤ 1000000) (sym el) within.l,
      size_of a (subst (λ z. nat_abs z ≤ 1280000) (sym ea) within.a),
      size_of b (subst (λ z. nat_abs z ≤ 1280000) (sym eb) within.b),
    )

pub weights_in : (w : Weights) → weights_refusal w ≡ 0 → WeightsIn (weights_of w)
unfolding weights_of
weights_in w e =
    let k = weights-accepted w e in
    record { l = weight-fixed w.l k.l; c = weight-fixed w.c k.c; h = weight-fixed w.h k.h }

pub tolerance-le : (t : Float) → tolerance_refusal t ≡ 0 → fixed_size t ≤ 1000000
tolerance-le t e = fixed_size-le 100 t (lightness-size t (tolerance-accepted t e))
