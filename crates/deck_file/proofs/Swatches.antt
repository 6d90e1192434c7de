-- The swatches of a file, and their bytes. Assumes nothing.
use mathlib.Core.Path.{◌≡◌, refl, sym, ap, ◌∙◌}
use mathlib.Core.Logic.{⊎_elim}
use mathlib.Core.List.{List, [], ◌++◌, append-nil, append_assoc}
use Prim.Native.Nat.{ℕ, zero, suc, ◌+◌, ◌*◌, ◌<◌}
use native.Mathlib.Nat.{eq-or-lt_of_le, le_of_suc-le-suc, not-suc-le-zero}
use native.Mathlib.Numerals.{add-one}
use native.Mathlib.Omega.{arith}
use lib.ListN.{length, drop, length-append}
use lib.Seq.{drop_at, drop-append-le}
use Rattle.sample.specs.Sample.{Colour}
use Rattle.buffer.proofs.NumberLaws.{signed-length}
use Rattle.deck_file.specs.Layout.{swatch_bytes, swatches_bytes}

-- a function of three things that are equal: the parts of a colour, or three columns
pub ap₃ : {A B : Type 0} (f : A → A → A → B) {x y z x' y' z' : A} → x ≡ x' → y ≡ y' → z ≡ z' → f x y z ≡ f x' y' z'
ap₃ f e g h = λ i. f (e i) (g i) (h i)

-- ---- their bytes

pub swatch-length : (c : Colour) → length (swatch_bytes c) ≡ 12
unfolding swatch_bytes
swatch-length c =
    simp length-append (omega (arith, signed-length c.l, signed-length c.a, signed-length c.b))

module _ (at : ℕ → Colour) where
  pub swatches-length : (n : ℕ) → length (swatches_bytes at n) ≡ 12 * n
  unfolding swatches_bytes
  swatches-length zero = refl
  swatches-length (suc n) =
      rw length-append (omega (arith, swatches-length n, swatch-length (at n)))

  pub swatches-none : [] ≡ swatches_bytes at 0
  unfolding swatches_bytes
  swatches-none = refl

  pub swatches-more : (n : ℕ) {c : Colour} → c ≡ at n → swatches_bytes at n ++ swatch_bytes c ≡ swatches_bytes at (n + 1)
  unfolding swatches_bytes
  swatches-more n e = rw (add-one n) (ap (λ c. swatches_bytes at n ++ swatch_bytes c) e)

  -- from a swatch on
  pub record From (k : ℕ) (bs : List ℕ) : Type 0 where
    pub rest : List ℕ
    pub is : drop (12 * k) bs ≡ swatch_bytes (at k) ++ rest

  pub swatch-from : (n k : ℕ) → k < n → From k (swatches_bytes at n)
  unfolding swatches_bytes
  swatch-from zero k h = absurd (not-suc-le-zero h)
  swatch-from (suc n) k h =
      let old = swatches_bytes at n in
      ⊎_elim
      (λ e. record {
        rest = [];
        is =
            drop_at old (swatch_bytes (at n)) (12 * k) (omega (arith, swatches-length n))
            ∙ ap (λ j. swatch_bytes (at j)) (sym e) ∙ sym (append-nil _);
      })
      (λ l.
      let f = swatch-from n k l in
      record {
        rest = f.rest ++ swatch_bytes (at n);
        is = drop-append-le (12 * k) old (swatch_bytes (at n)) (omega (arith, swatches-length n))
            ∙ ap (λ t. t ++ swatch_bytes (at n)) f.is
            ∙ append_assoc (swatch_bytes (at k)) f.rest (swatch_bytes (at n));
      })
      (eq-or-lt_of_le (le_of_suc-le-suc h))
