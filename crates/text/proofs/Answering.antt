-- What a line is answered.
use mathlib.Core.Path.{◌≡◌, sym, ap, ◌∙◌}
use mathlib.Core.Bool.{Bool, true, false, ◌||◌, cond}
use mathlib.Core.List.{[], ◌∷◌}
use Prim.Native.Nat.{ℕ, zero, suc, ◌+◌, ◌%◌, ◌<◌}
use native.Mathlib.Omega.{arith}
use lib.Dec.{lit<}
use lib.IntN.{pos}
use borrow.Author.Tests.{ne_eqb}
use Rattle.signed.specs.Inner.{int}
use Rattle.sample.specs.Sample.{Sample, Colour, lightness_out, opponent_out, colour_refusal, colour_sample}
use Rattle.refusal.specs.Refusals.{number_of, first_of}
use Rattle.refusal.specs.declared.Refusal.{Refusal}
use Rattle.refusal.proofs.RefusalLaws.{not-zero}
use Rattle.difference.specs.Cie76.{cie76_of}
use Rattle.difference.specs.Cie94.{cie94_of}
use Rattle.difference.specs.declared.cie94.Application.TheVariants.{GraphicArts}
use Rattle.difference.specs.declared.cie94.Comparison.TheVariants.{WithStandard}
use Rattle.difference.specs.Ciede2000.{Figures, figures_of}
use Rattle.decimal.specs.Writing.{last_digits, digits_of, refused_text as decimal_refused}
use Rattle.decimal.specs.Inner.{digit_count}
use Rattle.decimal.proofs.WritingLaws.{count-one}
use Rattle.text.specs.Figures.{figures_text, refused_text}
use Rattle.text.specs.Text.{plain_weights, figures_list, figures_line, pair_answer}
use Rattle.text.specs.Inner.{six_list}
use Rattle.text.specs.declared.Six.{Six}

small_of : (p q : Bool) → cond p 2 (cond q 3 0) < 10
small_of true q = lit< tt
small_of false true = lit< tt
small_of false false = lit< tt

colour-small : (c : Colour) → colour_refusal c < 10
unfolding colour_refusal
colour-small c = small_of (lightness_out c.l) (opponent_out c.a || opponent_out c.b)

first_small : (m n : ℕ) → m < 10 → n < 10 → first_of m n < 10
first_small zero n h k = k
first_small (suc m) n h k = h

-- a refusal of one digit
digits-one : (n : ℕ) → n < 10 → digits_of n ≡ (48 + n) ∷ []
unfolding digits_of last_digits digit_count
digits-one n h =
    let m : n % 10 ≡ n = omega arith in
    ap (λ k. last_digits k n) (count-one n h) ∙ ap (λ d. (48 + d) ∷ []) m

pub refused-short : (n : ℕ) → n < 10 → decimal_refused n ≡ refused_text n
unfolding decimal_refused refused_text
refused-short n h = rw (digits-one n h)

module _ (s t : Colour) where
  -- neither is refused
  pub pair-figures : 0 ≡ colour_refusal s → 0 ≡ colour_refusal t → figures_line (colour_sample s) (colour_sample t) ≡ pair_answer s t
  unfolding pair_answer
  pair-figures e f = sym (rw (sym e, sym f))

  -- the first that applies
  pub pair-refused : (e : Refusal) → number_of e ≡ first_of (colour_refusal s) (colour_refusal t)
      → decimal_refused (number_of e) ≡ pair_answer s t
  unfolding pair_answer
  pair-refused e h =
      let small : number_of e < 10 = rw h (first_small (colour_refusal s) (colour_refusal t) (colour-small s) (colour-small t)) in
      refused-short (number_of e) small ∙ rw h (sym (rw (ne_eqb (first_of (colour_refusal s) (colour_refusal t)) 0 (λ z. not-zero e (h ∙ z)))))

-- the six figures from the calls that work them out
pub six-figures : {s t p q : Sample} (six : Six) {d76 d94 : ℕ} {f : Figures} → p ≡ s → q ≡ t
    → int six.d76 ≡ pos d76 → d76 ≡ cie76_of s t → int six.d94 ≡ pos d94 → d94 ≡ cie94_of GraphicArts WithStandard plain_weights p q
    → int six.d00 ≡ pos f.difference → f.parts ≡ record { l = int six.l; c = int six.c; h = int six.h }
    → f ≡ figures_of plain_weights p q → figures_text (six_list six) ≡ figures_line s t
unfolding figures_line figures_list
six-figures {s} {t} {p} {q} six {d76} {d94} {f} ps qt n76 is76 n94 is94 n00 parts is00 =
    let x : f ≡ figures_of plain_weights s t = is00 ∙ (λ i. figures_of plain_weights (ps i) (qt i)) in
    let y = sym parts ∙ ap (λ (g : Figures). g.parts) x in
    let a76 : int six.d76 ≡ pos (cie76_of s t) = cc in
    let a94 : int six.d94 ≡ pos (cie94_of GraphicArts WithStandard plain_weights s t) = cc in
    let a00 : int six.d00 ≡ pos (figures_of plain_weights s t).difference =
    n00 ∙ ap (λ (g : Figures). pos g.difference) x in
    λ i. figures_text (a76 i ∷ (a94 i ∷ (a00 i ∷ ((y i).l ∷ ((y i).c ∷ ((y i).h ∷ []))))))
