-- Texts written one after the other into a buffer.
use mathlib.Core.Path.{◌≡◌, refl, sym, ap, ◌∙◌}
use mathlib.Core.List.{List, [], ◌∷◌, ◌++◌}
use Prim.Native.Nat.{ℕ, suc, ◌+◌, ◌≤◌}
use native.Mathlib.Nat.{add-zero}
use native.Mathlib.Omega.{arith}
use lib.ListN.{length, take, drop, set, length-append}
use lib.Seq.{sets, sets-eq, length-sets, take-append_seam}
use Rattle.buffer.specs.Writing.{Written}

pub sets-append : (xs ys out : List ℕ) (at : ℕ) → sets (sets out at xs) (at + length xs) ys ≡ sets out at (xs ++ ys)
sets-append [] ys out at = ap (λ (k : ℕ). sets out k ys) (add-zero at)
sets-append (x ∷ xs) ys out at =
    let e : at + suc (length xs) ≡ suc at + length xs = omega arith in
    ap (λ (k : ℕ). sets (sets (set out at x) (suc at) xs) k ys) e ∙ sets-append xs ys (set out at x) (suc at)

-- two texts one after the other
pub written-append : {out mid last x y : List ℕ} {at m n e r : ℕ} → Written out at x m mid e → Written mid e y n last r
    → Written out at (x ++ y) (m + n) last r
written-append {out} {mid} {last} {x} {y} {at} {m} {n} {e} {r} h k =
    record {
      is = k.is ∙ (λ i. sets (h.is i) (h.next i) y) ∙ sets-append x y out at;
      next = rw length-append (omega (arith, h.next, k.next));
      size = rw length-append (omega (arith, h.size, k.size));
    }

pub written_none : (out : List ℕ) (at n : ℕ) → Written out at [] n out at
written_none out at n = record { is = refl; next = sym (add-zero at); size = omega arith }

pub written_is : {out last x y : List ℕ} {at n r : ℕ} → x ≡ y → Written out at x n last r → Written out at y n last r
written_is e w = rw e at w

-- a longer room serves too
pub written-most : {out last x : List ℕ} {at m n r : ℕ} → Written out at x m last r → m ≤ n → Written out at x n last r
written-most h k = record { is = h.is; next = h.next; size = omega (arith, h.size) }

pub written-length : {out last x : List ℕ} {at n r : ℕ} → Written out at x n last r → length last ≡ length out
written-length {out} {x = x} {at} w = ap length w.is ∙ length-sets out at x

-- what stands in front stays in front: the text, then what was there before
pub written-front : {out last x : List ℕ} {n r : ℕ} → Written out 0 x n last r → length x ≤ length out
    → last ≡ x ++ drop (length x) out
written-front {out} {x = x} w h =
    let e : 0 + length x ≡ length x = omega arith in
    w.is ∙ sets-eq x out 0 (omega arith) ∙ ap (λ (k : ℕ). x ++ drop k out) e

-- what stands at the start of a buffer after a text was written there
pub written-take : {out last text : List ℕ} {n r : ℕ} → n ≤ length out → Written out 0 text n last r → take r last ≡ text
written-take {out} {last} {text} {n} {r} h w =
    let e : r ≡ length text = omega (arith, w.next) in
    (λ i. take (e i) (w.is i)) ∙ ap (take (length text)) (sets-eq text out 0 (omega (arith, w.size)))
    ∙ take-append_seam text (drop (0 + length text) out)
