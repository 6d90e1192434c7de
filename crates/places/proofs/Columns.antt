-- The list of a column's first places, and a list whose front it becomes. Assumes nothing.
use mathlib.Core.Path.{◌≡◌, refl, sym, ap, ap₂, ◌∙◌}
use mathlib.Core.Logic.{⊎_elim}
use mathlib.Core.List.{List, [], ◌∷◌, ◌++◌}
use Prim.Native.Nat.{ℕ, zero, suc, ◌+◌, ◌≤◌, ◌<◌}
use native.Mathlib.Nat.{eq-or-lt_of_le, le_of_suc-le-suc, not-suc-le-zero}
use native.Mathlib.Numerals.{add-one}
use native.Mathlib.Omega.{arith}
use lib.IntN.{ℤ, pos}
use lib.ListN.{length, get_or, set, drop, length-append, get_or-append, get_or-eq_default}
use lib.Seq.{drop-cons, set_at, get_or_at, append_snoc}
use Rattle.places.specs.Places.{at, column_of}

module _ {A : Type 0} (g : ℕ → A) where
  pub column-length : (n : ℕ) → length (column_of g n) ≡ n
  unfolding column_of
  column-length zero = refl
  column-length (suc n) = rw (length-append, column-length n) (omega arith)

  -- a place more of the list xs is filled, which has become ys
  pub column-more : (xs ys : List A) (n : ℕ) {z : A} → ys ≡ column_of g n ++ drop n xs → n < length xs → z ≡ g n
      → set ys n z ≡ column_of g (n + 1) ++ drop (n + 1) xs
  unfolding column_of
  column-more xs ys n {z} e h f =
      let old = column_of g n in
      let rest : ys ≡ old ++ get_or xs n z ∷ drop (suc n) xs = e ∙ ap (λ t. old ++ t) (drop-cons xs n z h) in
      rw (add-one n)
      (ap₂ (λ t x. set t n x) rest f ∙ set_at old (get_or xs n z) (drop (suc n) xs) (g n) n (column-length n)
      ∙ sym (append_snoc old (g n) (drop (suc n) xs)))

module _ (g : ℕ → ℤ) where
  pub column-at : (n k : ℕ) → k < n → at (column_of g n) k ≡ g k
  unfolding column_of
  column-at zero k h = absurd (not-suc-le-zero h)
  column-at (suc n) k h =
      ⊎_elim
      (λ e. get_or_at (column_of g n) (g n) [] (pos 0) k (column-length g n ∙ omega arith) ∙ ap g (omega arith))
      (λ l. get_or-append (column_of g n) (g n ∷ []) (pos 0) k (omega (arith, column-length g n)) ∙ column-at n k l)
      (eq-or-lt_of_le (le_of_suc-le-suc h))

  pub column-past : (n k : ℕ) → n ≤ k → at (column_of g n) k ≡ pos 0
  column-past n k h = get_or-eq_default (column_of g n) (pos 0) (omega (arith, column-length g n))
