-- What it says of a colour that it is not refused, and of a sample that it is within the limits. Assumes nothing.
use mathlib.Core.Path.{◌≡◌, refl, sym, ap, ◌∙◌, subst}
use mathlib.Core.Bool.{Bool, true, false, ◌||◌, cond, true≢false}
use Prim.Native.Nat.{ℕ, ◌≤◌}
use native.Mathlib.Omega.{arith}
use lib.Dec.{T, ltb}
use lib.IntN.{ℤ, pos, negsuc, nat_abs}
use lib.Signed.{lt_z, non_neg}
use borrow.Author.Tests.{le-ltb, ltb-false}
use Rattle.sample.specs.Sample.{Colour, opponent_out, colour_refusal, colour_sample}
use Rattle.sample.specs.InnerNarrowing.{Narrowed}
use Rattle.sample.specs.Inner.{lab_of, colour, SampleIn}
use Rattle.sample.specs.declared.Lab.{Lab}
use Rattle.signed.specs.declared.Int.{Int}
use Rattle.signed.specs.Inner.{int, Exactly}
use Rattle.signed.proofs.SignedLaws.{int-size}

-- none of the four tests holds where neither refusal is given
record Passed (p q r s : Bool) : Type 0 where
  pub negative : p ≡ false
  pub l : q ≡ false
  pub a : r ≡ false
  pub b : s ≡ false

passed : (p q r s : Bool) → cond {A = ℕ} (p || q) 2 (cond (r || s) 3 0) ≡ 0 → Passed p q r s
passed true q r s e = absurd (omega arith)
passed false true r s e = absurd (omega arith)
passed false false true s e = absurd (omega arith)
passed false false false true e = absurd (omega arith)
passed false false false false e = record { negative = refl; l = refl; a = refl; b = refl }

tests : (c : Colour) → colour_refusal c ≡ 0
    → Passed (lt_z c.l (pos 0)) (ltb 1000000 (nat_abs c.l)) (ltb 1280000 (nat_abs c.a)) (ltb 1280000 (nat_abs c.b))
unfolding colour_refusal
tests c e = passed _ _ _ _ e

pub accepted-in : (c : Colour) → colour_refusal c ≡ 0 → SampleIn (colour_sample c)
unfolding colour_sample
accepted-in c e =
    let h = tests c e in
    record { l = ltb-false _ _ h.l; a = ltb-false _ _ h.a; b = ltb-false _ _ h.b }

-- the lightness is not below 0
pub accepted-lightness : (c : Colour) → colour_refusal c ≡ 0 → c.l ≡ pos (nat_abs c.l)
accepted-lightness c e = natural c.l (tests c e).negative
  where
    natural : (z : ℤ) → lt_z z (pos 0) ≡ false → z ≡ pos (nat_abs z)
    natural (pos n) h = refl
    natural (negsuc n) h = absurd (true≢false h)

-- the sizes of the fields of a sample, which is within the limits
pub lab-in : (s : Lab) → SampleIn (lab_of s)
unfolding lab_of
lab-in s =
    record { l = s.l_within; a = subst (λ (n : ℕ). n ≤ 1280000) (sym (int-size s.a)) s.a_within; b = subst (λ (n : ℕ). n ≤ 1280000) (sym (int-size s.b)) s.b_within }

-- the lightness l of a colour that is not refused, as the machine reads it
pub lightness-made : (c : Colour) {l : ℤ} → colour_refusal c ≡ 0 → l ≡ c.l → T (non_neg l) × (nat_abs l ≤ 1000000)
unfolding colour_sample
lightness-made c r e =
    (subst (λ z. T (non_neg z)) (sym (e ∙ accepted-lightness c r)) tt, subst (λ (n : ℕ). n ≤ 1000000) (sym (ap nat_abs e)) (accepted-in c r).l)

-- a sample that is made of one; x and y are what the machine makes of a and b
pub record Made (c : Colour) (z : ℤ) (x y : Int) : Type 0 where
  pub l_within : nat_abs z ≤ 1000000
  pub a_within : x.n ≤ 1280000
  pub b_within : y.n ≤ 1280000
  pub l : nat_abs z ≡ nat_abs c.l
  pub a : int x ≡ c.a
  pub b : int y ≡ c.b

pub made : (c : Colour) {l a b : ℤ} {x y : Int} → colour_refusal c ≡ 0 → l ≡ c.l → a ≡ c.a → b ≡ c.b
    → Exactly a (nat_abs a) x → Exactly b (nat_abs b) y → Made c l x y
unfolding colour_sample
made c r el ea eb hx hy =
    let within = accepted-in c r in
    record {
      l_within = (lightness-made c r el).1;
      a_within = subst (λ (n : ℕ). n ≤ 1280000) (sym (hx.size ∙ ap nat_abs ea)) within.a;
      b_within = subst (λ (n : ℕ). n ≤ 1280000) (sym (hy.size ∙ ap nat_abs eb)) within.b;
      l = ap nat_abs el;
      a = hx.is ∙ ea;
      b = hy.is ∙ eb;
    }

-- a colour of numbers in 32 bits that is not refused is that of the numbers themselves
pub narrowed-colour : {l a b p q r : ℤ} → Narrowed l p → Narrowed a q → Narrowed b r → colour_refusal (colour p q r) ≡ 0
    → colour p q r ≡ colour l a b
narrowed-colour {p = p} {q} {r} hl ha hb e =
    let h = tests (colour p q r) e in
    let low : opponent_out p ≡ false = le-ltb _ _ (omega (arith, ltb-false _ _ h.l)) in
    λ i. colour (hl.same (sym hl.opponent ∙ low) i) (ha.same (sym ha.opponent ∙ h.a) i) (hb.same (sym hb.opponent ∙ h.b) i)
