-- `isqrt::is_root` meets its contract. Assumes nothing.
use mathlib.Core.Path.{◌≡◌, refl, sym, ◌∙◌}
use mathlib.Core.Bool.{Bool, true, false, true≢false}
use Prim.Native.Nat.{ℕ, ◌+◌, ◌-◌, ◌*◌, ◌≤◌, ◌<◌}
use native.Mathlib.Omega.{arith}
use lib.Dec.{leb, eqb}
use borrow.Author.Tests.{eq-eqb, ne_eqb, leb-true, leb-false, lt-leb}
use Rattle.isqrt.specs.Root.{root_of}
use Rattle.isqrt.proofs.RootLaws.{root_below, root-lt-pow, root-unique, root-largest, square-next}
use Rattle.isqrt.proofs.is_root.Goals as goal
use Rattle.isqrt.proofs.is_root.Goals.{then-r-le4294967295, else-r-le4294967295}

too_large : (n r : ℕ) → root_of n < r → false ≡ eqb r (root_of n)
too_large n r h = sym (ne_eqb r (root_of n) (λ e. absurd (omega (arith, e))))

-- the next square is 2r + 1 further on
too_small : (n r : ℕ) → 2 * r < n - r * r → false ≡ eqb r (root_of n)
too_small n r h =
    let larger : r + 1 ≤ root_of n = root-largest n (r + 1) (omega (arith, square-next r)) in
    sym (ne_eqb r (root_of n) (λ e. absurd (omega (arith, e))))

the-root : (n r : ℕ) → r * r ≤ n → n - r * r ≤ 2 * r → true ≡ eqb r (root_of n)
the-root n r low near = sym (eq-eqb r (root_of n) (sym (root-unique n r low (omega (arith, square-next r)))))

last-test : (n r : ℕ) → r * r ≤ n → leb (n - r * r) (2 * r) ≡ eqb r (root_of n)
last-test n r low = by-test (leb (n - r * r) (2 * r)) refl
  where
    by-test : (b : Bool) → leb (n - r * r) (2 * r) ≡ b → b ≡ eqb r (root_of n)
    by-test true e = the-root n r low (leb-true _ _ e)
    by-test false e = too_small n r (leb-false _ _ e)

pub returns-then-r-n : goal.returns-then-r-n
returns-then-r-n c =
    elim c.if-r-le4294967295.branch [
      | then-r-le4294967295 w ↦ last-test _ _ (leb-true _ _ (sym w.value-is ∙ c.if-r-n.true))
      | else-r-le4294967295 w ↦ absurd (true≢false (sym c.if-r-n.true ∙ w.value-is ∙ lt-leb _ _ w.if-r-le4294967295.false))
    ]

pub returns-else-r-n : goal.returns-else-r-n
returns-else-r-n c =
    elim c.if-r-le4294967295.branch [
      | then-r-le4294967295 w ↦ c.if-r-n.false ∙ too_large _ _ (root_below _ _ (leb-false _ _ (sym w.value-is ∙ c.if-r-n.false)))
      | else-r-le4294967295 w ↦ c.if-r-n.false ∙ too_large _ _ (omega (arith, root-lt-pow c.args.n (omega arith)))
    ]
