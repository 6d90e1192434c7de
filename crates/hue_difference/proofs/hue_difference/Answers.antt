-- `hue_difference::hue_difference` meets its contract: the size is within its bound, and carries the sign.
-- Assumes nothing.
use mathlib.Core.Path.{◌≡◌, refl, sym, ap, ◌∙◌}
use mathlib.Core.Bool.{Bool, false, true≢false}
use Prim.Native.Nat.{ℕ, ◌≤◌}
use Rattle.signed.specs.declared.Int.{Int}
use Rattle.signed.specs.Inner.{int}
use Rattle.signed.proofs.SignedLaws.{int-size}
use lib.Dec.{eqb}
use Rattle.std.specs.Ordering.{ordering_index}
use Rattle.std.specs.declared.cmp.Ordering.{Ordering}
use Rattle.std.specs.declared.cmp.Ordering.TheVariants.{Less, Equal, Greater}
use Rattle.signed.specs.Value.{with_sign}
use Rattle.hue_difference.specs.HueDifference.{hue_size}
use Rattle.hue_difference.specs.Inner.{Primed, with_order}
use Rattle.hue_difference.proofs.Sizes.{hue-size-le}
use Rattle.hue_difference.proofs.hue_difference.Goals as goal

size-le :
    (a1 b1 : Int) (c1 : ℕ) (a2 b2 : Int) (c2 : ℕ) →
    Primed a1.n b1.n c1 → Primed a2.n b2.n c2 →
    hue_size (int a1) (int b1) c1 (int a2) (int b2) c2 ≤ 4615105632
size-le a1 b1 c1 a2 b2 c2 s t =
    hue-size-le (int a1) (int b1) c1 (int a2) (int b2) c2 (rw (int-size a1, int-size b1) s) (rw (int-size a2, int-size b2) t)

unequal : (o : Ordering) {b : Bool} → b ≡ eqb (ordering_index o) 1 → b ≡ false → o ≡ Equal → ⊥
unequal o e f g = true≢false (sym (e ∙ ap (λ (p : Ordering). eqb (ordering_index p) 1) g) ∙ f)

signed-by : (o : Ordering) (n : ℕ) → (o ≡ Equal → ⊥) → with_sign (eqb (ordering_index o) 0) n ≡ with_order o n
signed-by Less n h = refl
signed-by Equal n h = absurd (h refl)
signed-by Greater n h = refl

pub returns : goal.returns
unfolding int
returns c =
    record {
      is = rw (c.eq-2.ensures, c.hue_size.ensures) (signed-by _ _ (unequal _ c.eq.ensures c.if-eq.false));
      size = rw c.hue_size.ensures (size-le c.args.p.a c.args.p.b _ c.args.q.a c.args.q.b _ c.requires.first_primed c.requires.second_primed);
    }
