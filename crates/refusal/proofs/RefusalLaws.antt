-- The order of refusals. Assumes nothing.
use mathlib.Core.Path.{◌≡◌, refl, sym, ap, ◌∙◌}
use Prim.Native.Nat.{ℕ, zero, suc}
use native.Mathlib.Omega.{arith}
use mathlib.Core.List.{List, [], ◌∷◌, ◌++◌}
use Rattle.std.specs.Prelude.{Result, Ok, Err}
use Rattle.refusal.specs.declared.Refusal.{Refusal}
use Rattle.refusal.specs.declared.Refusal.TheVariants.{NotFinite, Lightness, Opponent, Weight, Tolerance, DeckSize, Swatch}
use Rattle.refusal.specs.declared.Refusal.TheVariants.{Line, Mark, Version, Length, Room, Form, Row, Sets}
use Rattle.refusal.specs.Refusals.{number_of, first_of, first_refusal, given}

pub first-none : (m n : ℕ) → first_of m n ≡ 0 → (m ≡ 0) × (n ≡ 0)
first-none zero n e = (refl, e)
first-none (suc m) n e = absurd (omega arith)

-- a first refusal that applies is the one
pub first-applies : (m n : ℕ) → (m ≡ 0 → ⊥) → m ≡ first_of m n
first-applies zero n h = absurd (h refl)
first-applies (suc m) n h = refl

pub first-last : (n : ℕ) → first_refusal (n ∷ []) ≡ n
unfolding first_refusal
first-last zero = refl
first-last (suc n) = refl

pub first-cons : (n : ℕ) (ns : List ℕ) → first_refusal (n ∷ ns) ≡ first_of n (first_refusal ns)
unfolding first_refusal
first-cons n ns = refl

-- no refusal at all: none of the first, and none of the others
pub none_of : (n : ℕ) (ns : List ℕ) → first_refusal (n ∷ ns) ≡ 0 → (n ≡ 0) × (first_refusal ns ≡ 0)
none_of n ns e = first-none n (first_refusal ns) (sym (first-cons n ns) ∙ e)

pub first-assoc : (m n k : ℕ) → first_of (first_of m n) k ≡ first_of m (first_of n k)
first-assoc zero n k = refl
first-assoc (suc m) n k = refl

-- one test more, after the others
pub first_then : (ns : List ℕ) (n : ℕ) → first_of (first_refusal ns) n ≡ first_refusal (ns ++ (n ∷ []))
unfolding first_refusal
first_then [] n = sym (first-last n)
first_then (m ∷ ns) n = first-assoc m (first_refusal ns) n ∙ ap (λ (k : ℕ). first_of m k) (first_then ns n)

-- ---- answers

-- a refusal has a number, which is not 0
pub has_number : (e : Refusal) → (k : ℕ) × (number_of e ≡ suc k)
has_number NotFinite = (0, refl)
has_number Lightness = (1, refl)
has_number Opponent = (2, refl)
has_number Weight = (3, refl)
has_number Tolerance = (4, refl)
has_number DeckSize = (5, refl)
has_number Swatch = (6, refl)
has_number Line = (8, refl)
has_number Mark = (9, refl)
has_number Version = (10, refl)
has_number Length = (11, refl)
has_number Room = (12, refl)
has_number Form = (13, refl)
has_number Row = (14, refl)
has_number Sets = (15, refl)

pub not-zero : (e : Refusal) → number_of e ≡ 0 → ⊥
not-zero e h = let k = has_number e in omega (arith, k.1, h)

-- the first that applies
pub first-number : (e : Refusal) (n : ℕ) → first_of (number_of e) n ≡ number_of e
first-number e n = let k = has_number e in ap (λ (m : ℕ). first_of m n) k.1 ∙ sym k.1

pub first-refused : {m : ℕ} (e : Refusal) (n : ℕ) → number_of e ≡ m → first_of m n ≡ number_of e
first-refused e n h = ap (λ (k : ℕ). first_of k n) (sym h) ∙ first-number e n

pub first-zero : (n : ℕ) → first_of n 0 ≡ n
first-zero zero = refl
first-zero (suc n) = refl

-- the value counts only where nothing is refused
pub given-same : {A : Type 0} (n : ℕ) {x y : A} → (n ≡ 0 → x ≡ y) → given n x ≡ given n y
unfolding given
given-same {A} zero {x} {y} e = let same : Path (Result A ℕ) (Ok x) (Ok y) = λ i. Ok (e refl i) in same
given-same (suc k) e = refl

-- nothing is refused
pub gives-value : {A : Type 0} {n : ℕ} {x y : A} → n ≡ 0 → x ≡ y → Ok x ≡ given n y
unfolding given
gives-value {A} {n} {x} {y} h e =
    let same : Path (Result A ℕ) (Ok x) (Ok y) = λ i. Ok (e i) in same ∙ ap (λ (k : ℕ). given k y) (sym h)

-- a refusal is given
pub gives-refusal : {A : Type 0} {n : ℕ} (e : Refusal) (x : A) → number_of e ≡ n → Err (number_of e) ≡ given n x
unfolding given
gives-refusal {A} e x h =
    let k = has_number e in
    let same : Path (Result A ℕ) (Err (number_of e)) (Err (suc k.0)) = λ i. Err (k.1 i) in
    same ∙ ap (λ (m : ℕ). given m x) (sym k.1 ∙ h)
