-- What the functions of `sine` return: one law for each contract.
-- Assumes nothing.
use mathlib.Core.Path.{◌≡◌, sym, ap, ◌∙◌, subst}
use mathlib.Core.List.{List}
use Prim.Native.Nat.{ℕ, ◌-◌, ◌%◌, ◌≤◌, ◌<◌}
use native.Mathlib.Omega.{arith}
use borrow.Author.Tests.{lt-ltb, le-ltb, lt-leb, le-leb}
use lib.Dec.{leb}
use lib.IntN.{pos, neg_ℤ}
use lib.ListN.{get_or}
use Rattle.signed.specs.Inner.{Within}
use Rattle.signed.proofs.SignedLaws.{int-true, int-false}
use Rattle.sine.specs.Inner.{Entry}
use Rattle.sine.specs.Sine.{sine_entry, sine_half, sine_turn, sine_of}
use Rattle.sine.proofs.Tabulate.{tabulate, tabulated}
use Rattle.sine.proofs.SineLaws.{sine_entry-le, half_le}

-- what stands at k of a list that is the computed table
pub table-entry : (t : List ℕ) → t ≡ tabulate sine_entry 0 901 → (k : ℕ) → k < 901 → get_or t k 0 ≡ sine_entry k
table-entry t e k h = ap (λ (l : List ℕ). get_or l k 0) e ∙ tabulated sine_entry 901 k h

pub entry_of : {k r : ℕ} → k < 901 → r ≡ sine_entry k → Entry k r
entry_of {k} {r} h e = record { is = e; size = subst (λ (n : ℕ). n ≤ 1000000000) (sym e) (sine_entry-le k h) }

-- the two half turns: the sign, and a half turn's sine n
pub sine-first :
    (angle : ℕ) {n : ℕ} →
    angle % 360000000 < 180000000 →
    n ≡ sine_half (angle % 360000000) →
    Within (sine_of angle) 1000000000 (record { neg = leb 180000000 (angle % 360000000); n = n })
unfolding sine_of sine_turn
sine-first angle h e =
    record {
      is = int-false _ (lt-leb _ _ h) ∙ rw (lt-ltb _ _ h) (ap pos e);
      size = omega (arith, half_le (angle % 360000000));
    }

pub sine-second :
    (angle : ℕ) {n : ℕ} →
    180000000 ≤ angle % 360000000 →
    n ≡ sine_half (angle % 360000000 - 180000000) →
    Within (sine_of angle) 1000000000 (record { neg = leb 180000000 (angle % 360000000); n = n })
unfolding sine_of sine_turn
sine-second angle h e =
    record {
      is = int-true _ (le-leb _ _ h) ∙ rw (le-ltb _ _ h) (ap (λ (m : ℕ). neg_ℤ (pos m)) e);
      size = omega (arith, half_le (angle % 360000000 - 180000000));
    }
