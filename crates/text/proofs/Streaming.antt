-- The input in pieces: what one more byte and one more piece do.
use mathlib.Core.Path.{◌≡◌, refl, sym, ap, ◌∙◌}
use mathlib.Core.Bool.{Bool, true, false, cond}
use mathlib.Core.List.{List, [], ◌∷◌, ◌++◌, append_assoc, append-nil}
use Prim.Native.Nat.{ℕ, ◌+◌, ◌≤◌, ◌<◌}
use native.Mathlib.Numerals.{add-one}
use native.Mathlib.Omega.{arith}
use lib.Dec.{eqb}
use lib.ListN.{length, get_or, take, length-append}
use lib.Seq.{length-sets, take-suc}
use borrow.Author.Tests.{eq-eqb, ne_eqb}
use Rattle.buffer.specs.Writing.{Written}
use Rattle.buffer.proofs.WritingLaws.{written-append, written_is, written_none}
use Rattle.text.specs.Text.{Held, part, held_answer}
use Rattle.text.specs.Stream.{answer_most, held_with, held_after, held_text}

either : {A B : Type 0} (t : Bool) (f : A → B) {x y : A} {u v : B} → u ≡ f x → v ≡ f y
    → cond t u v ≡ f (cond t x y)
either true f p q = p
either false f p q = q

pub after-append : (xs ys : List ℕ) (h : Held) → held_after h (xs ++ ys) ≡ held_after (held_after h xs) ys
unfolding held_after
after-append [] ys h = refl
after-append (b ∷ xs) ys h =
    either (eqb b 10) (λ (x : Held). held_after x ys) (after-append xs ys (part [])) (after-append xs ys (held_with h b))

joined : (t : Bool) (a ys : List ℕ) (x y : Held) (u v : List ℕ) {u' v' : List ℕ}
    → u' ≡ u ++ held_text x ys → v' ≡ v ++ held_text y ys
    → cond t (a ++ u') v' ≡ cond t (a ++ u) v ++ held_text (cond t x y) ys
joined true a ys x y u v p q = ap (λ (l : List ℕ). a ++ l) p ∙ sym (append_assoc a u (held_text x ys))
joined false a ys x y u v p q = q

pub text-append : (xs ys : List ℕ) (h : Held) → held_text h (xs ++ ys) ≡ held_text h xs ++ held_text (held_after h xs) ys
unfolding held_text held_after
text-append [] ys h = refl
text-append (b ∷ xs) ys h =
    joined (eqb b 10) (held_answer h) ys (held_after (part []) xs) (held_after (held_with h b) xs) (held_text (part []) xs)
    (held_text (held_with h b) xs) (text-append xs ys (part [])) (text-append xs ys (held_with h b))

after-newline : (h : Held) (b : ℕ) → b ≡ 10 → held_after h (b ∷ []) ≡ part []
unfolding held_after
after-newline h b e = rw (eq-eqb _ _ e)

after-other : (h : Held) (b : ℕ) → (b ≡ 10 → ⊥) → held_after h (b ∷ []) ≡ held_with h b
unfolding held_after
after-other h b e = rw (ne_eqb _ _ e)

text-newline : (h : Held) (b : ℕ) → b ≡ 10 → held_text h (b ∷ []) ≡ held_answer h
unfolding held_text
text-newline h b e = rw (eq-eqb _ _ e, append-nil (held_answer h))

text-other : (h : Held) (b : ℕ) → (b ≡ 10 → ⊥) → held_text h (b ∷ []) ≡ []
unfolding held_text
text-other h b e = rw (ne_eqb _ _ e)

-- a run over a piece: the first i bytes were read, and `at` bytes written
pub record Going (h : Held) (chunk out₀ out : List ℕ) (s : Held) (i at : ℕ) : Type 0 where
  pub same : length out ≡ length out₀
  pub held : s ≡ held_after h (take i chunk)
  pub text : Written out₀ 0 (held_text h (take i chunk)) (length out₀) out at

-- the same values by other names
pub going-is : {h : Held} {chunk out₀ out out' : List ℕ} {s s' : Held} {i at at' : ℕ}
    → out' ≡ out → s' ≡ s → at' ≡ at → Going h chunk out₀ out s i at → Going h chunk out₀ out' s' i at'
going-is o n a g = rw (o, n, a) g

pub starts-held : (h : Held) → h ≡ held_after h []
unfolding held_after
starts-held h = refl

pub starts-text : (h : Held) (out : List ℕ) → Written out 0 (held_text h []) (length out) out 0
unfolding held_text
starts-text h out = written_none out 0 (length out)

module _
    {h s : Held}
    {chunk out₀ out : List ℕ}
    {i at b : ℕ}
    (g : Going h chunk out₀ out s i at)
    (k : i < length chunk)
    (e : get_or chunk i 0 ≡ b)
  where
    more : take (i + 1) chunk ≡ take i chunk ++ (b ∷ [])
    more = rw add-one (take-suc chunk i 0 k ∙ ap (λ (x : ℕ). take i chunk ++ (x ∷ [])) e)

    after_more : held_after h (take (i + 1) chunk) ≡ held_after s (b ∷ [])
    after_more =
        ap (held_after h) more ∙ after-append (take i chunk) (b ∷ []) h
        ∙ ap (λ (x : Held). held_after x (b ∷ [])) (sym g.held)

    text-more : {x : List ℕ} → held_text s (b ∷ []) ≡ x
        → held_text h (take i chunk) ++ x ≡ held_text h (take (i + 1) chunk)
    text-more f =
        let e = ap (λ (x : Held). held_text x (b ∷ [])) (sym g.held) ∙ f in
        sym
        (ap (held_text h) more ∙ text-append (take i chunk) (b ∷ []) h
        ∙ ap (λ (x : List ℕ). held_text h (take i chunk) ++ x) e)

    pub going-answer : {last : List ℕ} {r : ℕ} → b ≡ 10 → at + answer_most ≤ length out
        → Written out at (held_answer s) answer_most last r
        → Going h chunk out₀ last (part []) (i + 1) r
    going-answer {last} {r} n room w =
        let v = written-append g.text w in
        let size : length (held_text h (take i chunk) ++ held_answer s) ≤ length out₀ =
        simp length-append (omega (arith, g.text.next, g.text.size, w.size, g.same)) in
        record {
          same = ap length w.is ∙ length-sets out at (held_answer s) ∙ g.same;
          held = sym (after-newline _ b n) ∙ sym after_more;
          text = written_is (text-more (text-newline _ b n)) (record { is = v.is; next = v.next; size = size });
        }

    pub going-push : {t : Held} → (b ≡ 10 → ⊥) → t ≡ held_with s b → Going h chunk out₀ out t (i + 1) at
    going-push n p =
        let t = sym (append-nil (held_text h (take i chunk))) ∙ text-more (text-other _ b n) in
        record { same = g.same; held = p ∙ sym (after-other _ b n) ∙ sym after_more; text = written_is t g.text }
