-- The points of an accepted sample: their sizes, and that a sample that is not grey has a chroma far from 0. Assumes nothing.
use mathlib.Core.Path.{◌≡◌, refl, sym, ap, ◌∙◌}
use mathlib.Core.Bool.{false, ◌&&◌}
use mathlib.Core.Logic.{◌⊎◌, inl, inr}
use Prim.Native.Nat.{ℕ, zero, suc, ◌*◌, ◌≤◌}
use native.Mathlib.Nat.{le_trans, le_of_eq}
use native.Mathlib.Omega.{arith}
use lib.Dec.{eqb}
use lib.IntN.{ℤ, nat_abs}
use borrow.Author.Tests.{eqb-false}
use Rattle.signed.specs.Inner.{int, Within}
use Rattle.signed.specs.declared.Int.{Int}
use Rattle.signed.proofs.SignedLaws.{int-size}
use Rattle.sample.specs.Inner.{SampleIn}
use Rattle.hue.specs.Hue.{grey}
use Rattle.chroma.specs.Chroma.{chroma_of, primed_a, in_ten_millionths, primed_chroma}
use Rattle.chroma.proofs.ChromaLaws.{chroma-le, primed_a-ge, primed_a-le, in_ten_millionths-size, in_ten_millionths-le}
use Rattle.chroma.proofs.ChromaLaws.{primed_chroma-le, primed_chroma-ge-a, primed_chroma-ge-b, chroma-plain}
use Rattle.difference.specs.Pair.{sample_chroma, primed_of, plain_of}
use Rattle.difference.specs.Inner.{prepared_sample, point_of, IsPoint}
use Rattle.difference.specs.declared.prepared.Prepared.{Prepared}

-- a sample that is not grey has an a or a b
has-colour : (x y : ℕ) → (eqb x 0 && eqb y 0) ≡ false → (1 ≤ x) ⊎ (1 ≤ y)
has-colour zero zero e = absurd (eqb-false 0 0 e refl)
has-colour zero (suc y) e = inr (omega arith)
has-colour (suc x) y e = inl (omega arith)

coloured : (a b : ℤ) → grey a b ≡ false → (1 ≤ nat_abs a) ⊎ (1 ≤ nat_abs b)
unfolding grey
coloured a b e = has-colour (nat_abs a) (nat_abs b) e

thousand : (x y c : ℕ) → (1 ≤ x) ⊎ (1 ≤ y) → 1000 * x ≤ c → y * 1000 ≤ c → 1000 ≤ c
thousand x y c (inl h) p q = omega arith
thousand x y c (inr h) p q = omega arith

b-reaches : (a b : ℤ) → nat_abs b * 1000 ≤ primed_chroma a (in_ten_millionths b)
b-reaches a b = le_trans (le_of_eq (sym (in_ten_millionths-size b))) (primed_chroma-ge-b a (in_ten_millionths b))

pub primed-coloured : (a b : ℤ) (z : ℕ) → z ≤ 1000000000 → grey a b ≡ false → 1000 ≤ primed_chroma (primed_a a z) (in_ten_millionths b)
primed-coloured a b z h e =
    thousand (nat_abs a) (nat_abs b) _ (coloured a b e)
    (le_trans (primed_a-ge a z h) (primed_chroma-ge-a (primed_a a z) (in_ten_millionths b))) (b-reaches (primed_a a z) b)

pub plain-coloured : (a b : ℤ) → grey a b ≡ false → 1000 ≤ chroma_of a b
plain-coloured a b e =
    let h : 1000 * nat_abs a ≤ nat_abs (in_ten_millionths a) = omega (arith, in_ten_millionths-size a) in
    le_trans (thousand (nat_abs a) (nat_abs b) _ (coloured a b e)
    (le_trans h (primed_chroma-ge-a (in_ten_millionths a) (in_ten_millionths b))) (b-reaches (in_ten_millionths a) b))
    (le_of_eq (sym (chroma-plain a b)))

-- ---- the sizes of an accepted sample's fields
a_in : (s : Prepared) → nat_abs (int s.ab.a) ≤ 1280000
a_in s = rw int-size s.ab.within.0

b-in : (s : Prepared) → nat_abs (int s.ab.b) ≤ 1280000
b-in s = rw int-size s.ab.within.1

-- a prepared sample is within the limits
pub prepared-in : (s : Prepared) → SampleIn (prepared_sample s)
unfolding prepared_sample
prepared-in s = record { l = s.light; a = a_in s; b = b-in s }

pub chroma-is : (s : Prepared) → s.chroma ≡ sample_chroma (prepared_sample s)
unfolding prepared_sample sample_chroma
chroma-is s = s.own

pub chroma-in : (s : Prepared) → s.chroma ≤ 1810193359
chroma-in s = le_trans (le_of_eq s.own) (chroma-le _ _ (a_in s) (b-in s))

-- ---- a sample's points
-- the size of an Int from what it is
is-size : (x : Int) (z : ℤ) → int x ≡ z → x.n ≡ nat_abs z
is-size x z e = sym (int-size x) ∙ ap nat_abs e

pub point-plain : (s : Prepared) → (x y : Int) → Within (in_ten_millionths (int s.ab.a)) 1280000000 x → Within
    (in_ten_millionths (int s.ab.b)) 1280000000 y
    → IsPoint (prepared_sample s) (plain_of (prepared_sample s)) (record { a = x; b = y; chroma = s.chroma })
unfolding prepared_sample plain_of point_of sample_chroma
point-plain s x y p q =
    let c = s.own in
    let a_le : x.n ≤ s.chroma = le_trans (le_of_eq (is-size x _ p.is))
    (le_trans (primed_chroma-ge-a _ _) (le_of_eq (sym (chroma-plain _ _) ∙ sym c))) in
    let b_le : y.n ≤ s.chroma = le_trans (le_of_eq (is-size y _ q.is))
    (le_trans (primed_chroma-ge-b (in_ten_millionths (int s.ab.a)) _) (le_of_eq (sym (chroma-plain _ _) ∙ sym c))) in
    record {
      is = λ i. record { a = p.is i; b = q.is i; c = c i };
      coloured = record {
        bounded = record { a_le = omega (arith, p.size); b_le = q.size; c_le = omega (arith, chroma-in s); a_chroma = a_le; b_chroma = b_le };
        coloured = λ e. le_trans (plain-coloured _ _ e) (le_of_eq (sym c));
      };
    }

pub point-primed : (s : Prepared) → (z : ℕ) → z ≤ 1000000000 → (x y : Int) (k : ℕ) → Within (primed_a (int s.ab.a) z) 1920000000 x
    → Within (in_ten_millionths (int s.ab.b)) 1280000000 y → k ≡ primed_chroma (int x) (int y)
    → IsPoint (prepared_sample s) (primed_of z (prepared_sample s)) (record { a = x; b = y; chroma = k })
unfolding prepared_sample primed_of point_of
point-primed s z h x y k p q e =
    let c : k ≡ primed_chroma (primed_a (int s.ab.a) z) (in_ten_millionths (int s.ab.b)) = e ∙ (λ i. primed_chroma (p.is i) (q.is i)) in
    record {
      is = λ i. record { a = p.is i; b = q.is i; c = c i };
      coloured = record {
        bounded = record {
          a_le = p.size;
          b_le = q.size;
          c_le = le_trans (le_of_eq c) (primed_chroma-le _ _ (primed_a-le _ z (a_in s)) (in_ten_millionths-le _ (b-in s)));
          a_chroma = le_trans (le_of_eq (is-size x _ p.is)) (le_trans (primed_chroma-ge-a _ _) (le_of_eq (sym c)));
          b_chroma = le_trans (le_of_eq (is-size y _ q.is)) (le_trans (primed_chroma-ge-b (primed_a (int s.ab.a) z) _) (le_of_eq (sym c)));
        };
        coloured = λ g. le_trans (primed-coloured _ _ z h g) (le_of_eq (sym c));
      };
    }
