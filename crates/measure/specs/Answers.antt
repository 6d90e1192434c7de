-- What a public call answers: a difference as a double, or a refusal by its number. Assumes nothing.
use Rattle.std.specs.Prelude.{ℕ, zero, suc, Bool, false, cond, List, [], ◌∷◌, ℤ, pos, replicate, Float, Result, Ok, Err}
use Rattle.std.specs.Float.{fin, binary64}
use Rattle.std.specs.Float.Ieee.{of_int, div}
use Rattle.difference.specs.Ciede2000.{Figures}
use Rattle.refusal.specs.Refusals.{given}

-- the whole count of millionths, made a double and divided once by 1,000,000
unfoldable pub double_of : ℕ → Float
double_of n = div binary64 (of_int binary64 (pos n)) (of_int binary64 (pos 1000000))

-- the answer, from the refusal's number (0 for none) and the difference in millionths
abbrev pub answer_of : ℕ → ℕ → Result Float ℕ
answer_of refusal n = given refusal (double_of n)

-- the refusal number of an answer: 0 for a difference
abbrev pub refusal_of : {A : Type 0} → Result A ℕ → ℕ
refusal_of (Ok x) = 0
refusal_of (Err k) = k

-- the difference that an answer gives: 0 for a refusal
abbrev pub difference_of : Result Float ℕ → Float
difference_of (Ok d) = d
difference_of (Err k) = fin false 0 (pos 0)

-- a yes or no: no for a refusal
unfoldable pub yes_of : ℕ → Bool → Bool
yes_of zero yes? = yes?
yes_of (suc k) yes? = false

-- ---- the figures of CIEDE2000: chroma, a', b' and the hue difference in 10^-7, hues in 10^-6 degree, ratios in 10^-9, the
-- parts and the difference in 10^-6

-- in their order: C, a', b', C' and hue of sample 1, then of sample 2; Z(C1 + C2), far (1 or 0), H, mean hue; T, SL, SC, SH, R;
-- the signed parts l, c, h and CIEDE2000
unfoldable pub figures_row : Figures → List ℤ
figures_row f =
    pos f.c1 ∷ f.p1.a ∷ f.p1.b ∷ pos f.p1.c ∷ pos f.h1 ∷
    pos f.c2 ∷ f.p2.a ∷ f.p2.b ∷ pos f.p2.c ∷ pos f.h2 ∷
    pos f.z ∷ pos (cond f.far 1 0) ∷ f.hue_difference ∷ pos f.mean ∷
    pos f.terms.t ∷ pos f.terms.sl ∷ pos f.terms.sc ∷ pos f.terms.sh ∷ pos f.terms.r ∷
    f.parts.l ∷ f.parts.c ∷ f.parts.h ∷ pos f.difference ∷ []

-- the figures, or the refusal's number
abbrev pub figures_given : ℕ → Figures → Result (List ℤ) ℕ
figures_given refusal f = given refusal (figures_row f)

-- the figures, or 23 zeros for a refusal
unfoldable pub figures_answer : ℕ → Figures → List ℤ
figures_answer zero f = figures_row f
figures_answer (suc k) f = replicate 23 (pos 0)
