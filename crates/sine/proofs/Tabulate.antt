-- A table of a function of ℕ: what stands at a place, and one computed test that the table never falls.
-- Assumes nothing.
use mathlib.Core.Path.{◌≡◌, refl, ap, ◌∙◌, sym}
use mathlib.Core.Bool.{Bool, true, ◌&&◌, and-eq-true_iff}
use mathlib.Core.List.{List, [], ◌∷◌}
use Prim.Native.Nat.{ℕ, zero, suc, ◌+◌, ◌≤◌, ◌<◌}
use native.Mathlib.Nat.{add-zero, zero-add, add-suc, suc-add, le_refl, le_trans, le_of_suc-le-suc, not-suc-le-zero}
use borrow.Author.Tests.{leb-true}
use lib.Dec.{leb}
use lib.ListN.{length, get_or}

-- f i, f (i + 1), .., n of them
unfoldable pub tabulate : (ℕ → ℕ) → ℕ → ℕ → List ℕ
tabulate f i zero = []
tabulate f i (suc n) = f i ∷ tabulate f (suc i) n

pub length-tabulate : (f : ℕ → ℕ) (i n : ℕ) → length (tabulate f i n) ≡ n
unfolding tabulate
length-tabulate f i zero = refl
length-tabulate f i (suc n) = ap suc (length-tabulate f (suc i) n)

tabulated-from : (f : ℕ → ℕ) (i n k : ℕ) → k < n → get_or (tabulate f i n) k 0 ≡ f (i + k)
unfolding tabulate
tabulated-from f i zero k h = absurd (not-suc-le-zero h)
tabulated-from f i (suc n) zero h = ap f (sym (add-zero i))
tabulated-from f i (suc n) (suc k) h =
    tabulated-from f (suc i) n k (le_of_suc-le-suc h) ∙ ap f (suc-add i k ∙ sym (add-suc i k))

pub tabulated : (f : ℕ → ℕ) (n k : ℕ) → k < n → get_or (tabulate f 0 n) k 0 ≡ f k
tabulated f n k h = tabulated-from f 0 n k h ∙ ap f (zero-add k)

-- no entry is below the one before it, x standing before the first
unfoldable pub rises : ℕ → List ℕ → Bool
rises x [] = true
rises x (y ∷ ys) = leb x y && rises y ys

module _ (x y : ℕ) (ys : List ℕ) (t : rises x (y ∷ ys) ≡ true) where
  first : x ≤ y
  unfolding rises
  first = leb-true x y ((and-eq-true_iff (leb x y) (rises y ys)).0 t).0

  later : rises y ys ≡ true
  unfolding rises
  later = ((and-eq-true_iff (leb x y) (rises y ys)).0 t).1

below : (x : ℕ) (xs : List ℕ) → rises x xs ≡ true → (k : ℕ) → k < length xs → x ≤ get_or xs k 0
below x [] t k h = absurd (not-suc-le-zero h)
below x (y ∷ ys) t zero h = first x y ys t
below x (y ∷ ys) t (suc k) h = le_trans (first x y ys t) (below y ys (later x y ys t) k (le_of_suc-le-suc h))

pub rises-at : (x : ℕ) (xs : List ℕ) → rises x xs ≡ true → (j k : ℕ) → j ≤ k → k < length xs → get_or xs j 0 ≤ get_or xs k 0
rises-at x [] t j k l h = absurd (not-suc-le-zero h)
rises-at x (y ∷ ys) t zero zero l h = le_refl y
rises-at x (y ∷ ys) t zero (suc k) l h = below y ys (later x y ys t) k (le_of_suc-le-suc h)
rises-at x (y ∷ ys) t (suc j) zero l h = absurd (not-suc-le-zero l)
rises-at x (y ∷ ys) t (suc j) (suc k) l h =
    rises-at y ys (later x y ys t) j k (le_of_suc-le-suc l) (le_of_suc-le-suc h)
