-- Pieces of the input one after the other write what the whole input does.
use mathlib.Core.Path.{◌≡◌, refl, sym, ap, ◌∙◌}
use mathlib.Core.Bool.{Bool, true, false, cond}
use mathlib.Core.List.{List, [], ◌∷◌, ◌++◌, append_assoc, append-nil}
use Prim.Native.Nat.{ℕ}
use native.Mathlib.Nat.{le_refl}
use lib.Dec.{ltb, eqb}
use lib.ListN.{length, take}
use Rattle.text.specs.Figures.{header_text}
use Rattle.buffer.specs.Parts.{start_with}
use Rattle.buffer.proofs.WritingLaws.{written-take}
use Rattle.text.specs.Text.{line_most, Held, part, too_long, held_of, held_answer, lines_of, answers_of, text_of}
use Rattle.text.specs.Stream.{held_with, held_after, held_text, last_text, state_of, text_so_far, state_held, Follows}
use Rattle.text.specs.declared.Progress.{Progress}
use Rattle.text.proofs.Holding.{with-of}
use Rattle.text.proofs.Streaming.{Going, after-append, text-append}

-- l before the first line
abbrev before : List ℕ → List (List ℕ) → List (List ℕ)
before [] ls = ls
before (b ∷ l) ls = start_with b (before l ls)

before-ended : (l : List ℕ) (ls : List (List ℕ)) → before l ([] ∷ ls) ≡ l ∷ ls
unfolding start_with
before-ended [] ls = refl
before-ended (b ∷ l) ls = ap (start_with b) (before-ended l ls)

before_more : (l : List ℕ) (b : ℕ) (ls : List (List ℕ)) → before (l ++ (b ∷ [])) ls ≡ before l (start_with b ls)
before_more [] b ls = refl
before_more (a ∷ l) b ls = ap (start_with a) (before_more l b ls)

before-none : (b : ℕ) (l : List ℕ) → before (b ∷ l) [] ≡ (b ∷ l) ∷ []
unfolding start_with
before-none b [] = refl
before-none b (c ∷ l) = ap (start_with b) (before-none c l)

last-by : (t : Bool) (b : ℕ) (l : List ℕ)
    → last_text (cond t too_long (part (b ∷ l))) ≡ held_answer (cond t too_long (part (b ∷ l)))
unfolding last_text
last-by true b l = refl
last-by false b l = refl

last-lines : (l : List ℕ) → last_text (held_of l) ≡ answers_of (before l [])
unfolding last_text held_of answers_of
last-lines [] = refl
last-lines (b ∷ l) =
    last-by (ltb line_most (length (b ∷ l))) b l ∙ sym (append-nil (held_answer (held_of (b ∷ l))))
    ∙ ap answers_of (sym (before-none b l))

-- a newline or another byte
split : (t : Bool) (l a u v : List ℕ) (x y : Held) (e f : List (List ℕ))
    → (a ++ u) ++ last_text x ≡ answers_of (before l e) → v ++ last_text y ≡ answers_of (before l f)
    → cond t (a ++ u) v ++ last_text (cond t x y) ≡ answers_of (before l (cond t e f))
split true l a u v x y e f p q = p
split false l a u v x y e f p q = q

-- what is written from a line l on, and at the end
lines-text : (bs l : List ℕ)
    → held_text (held_of l) bs ++ last_text (held_after (held_of l) bs) ≡ answers_of (before l (lines_of bs))
unfolding held_text held_after lines_of held_of answers_of
lines-text [] l = last-lines l
lines-text (b ∷ bs) l =
    split (eqb b 10) l (held_answer (held_of l)) (held_text (part []) bs) (held_text (held_with (held_of l) b) bs)
    (held_after (part []) bs) (held_after (held_with (held_of l) b) bs) ([] ∷ lines_of bs) (start_with b (lines_of bs))
    (append_assoc (held_answer (held_of l)) (held_text (part []) bs) (last_text (held_after (part []) bs))
    ∙ ap (λ (x : List ℕ). held_answer (held_of l) ++ x) (lines-text bs [])
    ∙ ap answers_of (sym (before-ended l (lines_of bs))))
    (ap (λ (h : Held). held_text h bs ++ last_text (held_after h bs)) (with-of l b) ∙ lines-text bs (l ++ (b ∷ []))
    ∙ ap answers_of (before_more l b (lines_of bs)))

-- the end of the input
pub text-whole : (input : List ℕ) → text_of input ≡ text_so_far input ++ last_text (state_of input)
unfolding state_of text_so_far text_of held_of
text-whole input =
    ap (λ (x : List ℕ). header_text ++ x) (sym (lines-text input []))
    ∙ sym (append_assoc header_text (held_text (part []) input) (last_text (held_after (part []) input)))

module _ (input more : List ℕ) where
  state-more : held_after (state_of input) more ≡ state_of (input ++ more)
  unfolding state_of
  state-more = sym (after-append input more (part []))

  pub text-more : text_so_far (input ++ more) ≡ text_so_far input ++ held_text (state_of input) more
  unfolding state_of text_so_far
  text-more =
      ap (λ (x : List ℕ). header_text ++ x) (text-append input more (part []))
      ∙ sym (append_assoc header_text (held_text (part []) input) (held_text (held_after (part []) input) more))

-- a line that has bytes is answered at the end, and one that has none is not
pub last-held : (h : Held) → (h ≡ part [] → ⊥) → held_answer h ≡ last_text h
unfolding last_text
last-held (part []) e = absurd (e refl)
last-held (part (b ∷ l)) e = refl
last-held too_long e = refl

pub last_empty : [] ≡ last_text (part [])
unfolding last_text
last_empty = refl

-- a run over a piece that read n bytes
pub follows : {h : Held} {chunk out last : List ℕ} {m n : ℕ} {r : Progress} → Going h chunk out last (state_held r.state) n r.written
    → m ≡ n → (input : List ℕ) → h ≡ state_of input → Follows input (take m chunk) last r
follows {h} {chunk} {out} {last} {m} {n} {r} s read input e =
    let more : List ℕ = take n chunk in
    let t : held_text (state_of input) more ≡ take r.written last =
    ap (λ (x : Held). held_text x more) (sym e) ∙ sym (written-take (le_refl (length out)) s.text) in
    rw read
    record {
      state = s.held ∙ ap (λ (x : Held). held_after x more) e ∙ state-more input more;
      text = text-more input more ∙ ap (λ (x : List ℕ). text_so_far input ++ x) t;
    }

pub ends : {h : Held} {answer : List ℕ} → answer ≡ last_text h → (input : List ℕ) → h ≡ state_of input
    → text_of input ≡ text_so_far input ++ answer
ends w input e =
    text-whole input ∙ ap (λ (x : List ℕ). text_so_far input ++ x) (ap last_text (sym e) ∙ sym w)
