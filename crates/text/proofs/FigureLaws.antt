-- Figures written one after the other into a buffer.
use mathlib.Core.List.{List, [], ◌∷◌, ◌++◌, append_assoc}
use Prim.Native.Nat.{ℕ, ◌+◌}
use lib.IntN.{ℤ}
use Rattle.buffer.specs.Writing.{Written}
use Rattle.decimal.specs.Writing.{fixed_text}
use Rattle.buffer.proofs.WritingLaws.{written-append}
use Rattle.text.specs.Figures.{figures_text}

-- figures with a space between, from the last to the first
pub line-last : (z : ℤ) {o₀ o₁ : List ℕ} {e₀ e₁ : ℕ} → Written o₀ e₀ (fixed_text 6 z ++ (10 ∷ [])) 23 o₁ e₁
    → Written o₀ e₀ (figures_text (z ∷ [])) 23 o₁ e₁
unfolding figures_text
line-last z w = w

pub line_before : (z y : ℤ) (zs : List ℤ) {o₀ o₁ o₂ : List ℕ} {e₀ e₁ e₂ n : ℕ}
    → Written o₀ e₀ (fixed_text 6 z ++ (32 ∷ [])) 23 o₁ e₁ → Written o₁ e₁ (figures_text (y ∷ zs)) n o₂ e₂
    → Written o₀ e₀ (figures_text (z ∷ (y ∷ zs))) (23 + n) o₂ e₂
unfolding figures_text
line_before z y zs w v = rw append_assoc at (written-append w v)
