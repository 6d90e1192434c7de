-- The parts of some bytes: where the first ends, and what is left after it. Assumes nothing.
use mathlib.Core.Path.{◌≡◌, refl, sym, ap, ap₂, ◌∙◌}
use mathlib.Core.Bool.{Bool, true, false, ◌&&◌, cond}
use mathlib.Core.List.{List, [], ◌∷◌, ◌++◌}
use Prim.Native.Nat.{ℕ, suc, ◌+◌, ◌-◌, ◌≤◌, ◌<◌, suc-le-suc}
use native.Mathlib.Nat.{add-zero, zero-lt-suc}
use native.Mathlib.Numerals.{add-one}
use native.Mathlib.Omega.{arith}
use lib.Dec.{leb, ltb, eqb}
use lib.ListN.{length, get_or, take, drop, length-drop, take-append-drop}
use lib.Seq.{length-take-le, take_all, get_or-take, get_or-drop, drop-drop, drop-cons}
use borrow.Author.Tests.{le-leb, lt-leb, leb-true, leb-false, ltb-true, ltb-false, eq-eqb, ne_eqb}
use Rattle.buffer.specs.Parts.{start_with, parts_of}
use Rattle.buffer.specs.Inner.{parts_from, first_part, PartEnds}

-- ---- the parts of a list

-- no byte of the list is b
abbrev Free : ℕ → List ℕ → Type 0
Free b xs = (k : ℕ) → k < length xs → get_or xs k 0 ≡ b → ⊥

module _ (b : ℕ) where
  free-tail : (x : ℕ) (xs : List ℕ) → Free b (x ∷ xs) → Free b xs
  free-tail x xs f k h = f (suc k) (suc-le-suc h)

  step : (x : ℕ) (xs : List ℕ) (p : List ℕ) (ps : List (List ℕ)) → (x ≡ b → ⊥) → parts_of b xs ≡ p ∷ ps
      → parts_of b (x ∷ xs) ≡ (x ∷ p) ∷ ps
  unfolding parts_of start_with
  step x xs p ps f e = ap₂ (λ t q. cond t ([] ∷ parts_of b xs) (start_with x q)) (ne_eqb x b f) e

  -- a list with no b is one part
  pub parts-one : (xs : List ℕ) → Free b xs → parts_of b xs ≡ xs ∷ []
  unfolding parts_of
  parts-one [] f = refl
  parts-one (x ∷ xs) f = step x xs xs [] (f 0 (zero-lt-suc (length xs))) (parts-one xs (free-tail x xs f))

  -- and up to a b it is the first part
  pub parts_cut : (xs ys : List ℕ) → Free b xs → parts_of b (xs ++ b ∷ ys) ≡ xs ∷ parts_of b ys
  unfolding parts_of
  parts_cut [] ys f = ap (λ t. cond t ([] ∷ parts_of b ys) (start_with b (parts_of b ys))) (eq-eqb b b refl)
  parts_cut (x ∷ xs) ys f =
      step x (xs ++ b ∷ ys) xs (parts_of b ys) (f 0 (zero-lt-suc (length xs))) (parts_cut xs ys (free-tail x xs f))

-- ---- the parts from a place on

module _ (b : ℕ) (s : List ℕ) where
  pub from_in : (at : ℕ) → at ≤ length s → parts_from b s at ≡ parts_of b (drop at s)
  unfolding parts_from
  from_in at h = ap (λ t. cond t (parts_of b (drop at s)) []) (le-leb at (length s) h)

  pub from_out : (at : ℕ) → length s < at → parts_from b s at ≡ []
  unfolding parts_from
  from_out at h = ap (λ t. cond t (parts_of b (drop at s)) []) (lt-leb at (length s) h)

  pub from_start : parts_from b s 0 ≡ parts_of b s
  from_start = from_in 0 (omega arith)

  -- after k parts the next starts at p, and the one after that at q
  pub next-from : (ps : List (List ℕ)) (k p q : ℕ) → parts_from b s p ≡ drop k ps
      → parts_from b s q ≡ drop 1 (parts_from b s p) → parts_from b s q ≡ drop (k + 1) ps
  next-from ps k p q e f = f ∙ ap (drop 1) e ∙ drop-drop 1 k ps

  pub part-from : (ps : List (List ℕ)) (k p : ℕ) {t : List ℕ} → parts_from b s p ≡ drop k ps
      → t ≡ first_part (parts_from b s p) → t ≡ get_or ps k []
  part-from ps k p e f = f ∙ ap first_part e ∙ get_or-drop k ps 0 [] ∙ ap (λ n. get_or ps n []) (add-zero k)

  -- no byte from `at` up to r is b
  abbrev pub FreeUpTo : ℕ → ℕ → Type 0
  FreeUpTo at r = (k : ℕ) → at ≤ k → k < r → get_or s k 0 ≡ b → ⊥

  module _ (at r : ℕ) (low : at ≤ r) (high : r ≤ length s) (f : FreeUpTo at r) where
    abbrev first : List ℕ
    first = take (r - at) (drop at s)

    first-free : Free b first
    first-free k h e =
        let size : length first ≡ r - at =
        length-take-le (r - at) (drop at s) (rw (length-drop at s) (omega arith)) in
        f (at + k) (omega arith) (omega (arith, size))
        (sym (get_or-take (r - at) (drop at s) k 0 (omega (arith, size)) ∙ get_or-drop at s k 0) ∙ e)

    cut : drop at s ≡ first ++ drop r s
    cut =
        let e : at + (r - at) ≡ r = omega arith in
        sym (take-append-drop (r - at) (drop at s))
        ∙ ap (λ t. first ++ t) (drop-drop (r - at) at s ∙ ap (λ n. drop n s) e)

    -- a b stands at r
    pub ends_at : r < length s → get_or s r 0 ≡ b → PartEnds b s at r
    ends_at h e =
        let rest : drop r s ≡ b ∷ drop (r + 1) s =
        drop-cons s r 0 h ∙ ap₂ (λ x n. x ∷ drop n s) e (sym (add-one r)) in
        record {
          low = low;
          high = high;
          is =
              from_in at (omega arith) ∙ ap (parts_of b) (cut ∙ ap (λ t. first ++ t) rest)
              ∙ parts_cut b first (drop (r + 1) s) first-free ∙ ap (λ t. first ∷ t) (sym (from_in (r + 1) (omega arith)));
        }

    -- or the bytes end there
    pub ends_last : r ≡ length s → PartEnds b s at r
    ends_last e =
        let all : first ≡ drop at s = take_all (r - at) (drop at s) (rw (length-drop at s) (omega arith)) in
        record {
          low = low;
          high = high;
          is =
              from_in at (omega arith) ∙ ap (parts_of b) (sym all) ∙ parts-one b first first-free
              ∙ ap (λ t. first ∷ t) (sym (from_out (r + 1) (omega arith)));
        }

  -- ---- how many there are

  first-is : (t : Bool) (x : ℕ) (ps : List (List ℕ)) → 0 < length (cond t ([] ∷ ps) (start_with x ps))
  unfolding start_with
  first-is true x ps = zero-lt-suc (length ps)
  first-is false x [] = zero-lt-suc 0
  first-is false x (p ∷ ps) = zero-lt-suc (length ps)

  pub never-none : (xs : List ℕ) → 0 < length (parts_of b xs)
  unfolding parts_of
  never-none [] = zero-lt-suc 0
  never-none (x ∷ xs) = first-is (eqb x b) x (parts_of b xs)

  -- n parts are left from p on
  module _ (p n : ℕ) (e : length (parts_from b s p) ≡ n) where
    left-some : p ≤ length s → 0 < n
    left-some h = omega (arith, ap length (from_in p h), never-none (drop p s))

    left-none : length s < p → n ≡ 0
    left-none h = sym e ∙ ap length (from_out p h)

  -- there are k + 1 parts exactly where one starts at p, after k others, and none starts at q after it
  module _ (ps : List (List ℕ)) (k p q : ℕ) (e : parts_from b s p ≡ drop k ps) (f : parts_from b s q ≡ drop (k + 1) ps) where
    abbrev n : ℕ
    n = length ps

    at_p : length (parts_from b s p) ≡ n - k
    at_p = ap length e ∙ length-drop k ps

    at-q : length (parts_from b s q) ≡ n - (k + 1)
    at-q = ap length f ∙ length-drop (k + 1) ps

    counted : (t u : Bool) → leb p (length s) ≡ t → ltb (length s) q ≡ u → (t && u) ≡ eqb n (k + 1)
    counted false u h g =
        sym (ne_eqb n (k + 1) (λ d. absurd (omega (arith, left-none p _ at_p (leb-false p (length s) h), d))))
    counted true false h g =
        sym (ne_eqb n (k + 1) (λ d. absurd (omega (arith, left-some q _ at-q (ltb-false (length s) q g), d))))
    counted true true h g =
        sym (eq-eqb n (k + 1)
        (omega (arith, left-some p _ at_p (leb-true p (length s) h), left-none q _ at-q (ltb-true (length s) q g))))

    pub parts-number : (leb p (length s) && ltb (length s) q) ≡ eqb n (k + 1)
    parts-number = counted (leb p (length s)) (ltb (length s) q) refl refl
