-- What is written piece by piece is the text program's output for the whole input.
use Rattle.std.specs.Prelude.{◌≡◌, ℕ, ◌+◌, ◌-◌, List, [], ◌++◌, length, take, drop, Option, Some, None}
use Rattle.std.specs.Io.KnownBytes.{Appends, Consumes}
use mathlib.Core.Path.{refl, sym, ap, ◌∙◌}
use mathlib.Core.List.{append_assoc, append-nil}
use native.Mathlib.Omega.{arith}
use lib.ListN.{length-drop}
use lib.Seq.{take-add, take_all}
use Rattle.text.proofs.Streaming.{after-append, text-append}
use Rattle.text.specs.Text.{Held, part}
use Rattle.text.specs.Stream.{held_after, held_text, state_of}

-- nothing is appended, or two texts one after the other
pub appends-none : (x : Option (List ℕ)) → Appends x x []
appends-none None = tt
appends-none (Some xs) = sym (append-nil xs)

pub appends-more : (x y z : Option (List ℕ)) (a b : List ℕ) → Appends x y a → Appends y z b → Appends x z (a ++ b)
appends-more None y z a b p q = tt
appends-more (Some xs) None z a b p q = elim p [ ]
appends-more (Some xs) (Some ys) None a b p q = elim q [ ]
appends-more (Some xs) (Some ys) (Some zs) a b p q = q ∙ ap (λ (l : List ℕ). l ++ b) p ∙ append_assoc xs a b

-- nothing is consumed, or two texts one after the other
pub consumes-none : (x : Option (List ℕ)) → Consumes x x []
consumes-none None = tt
consumes-none (Some xs) = refl

pub consumes-more : (x y z : Option (List ℕ)) (a b : List ℕ) → Consumes x y a → Consumes y z b → Consumes x z (a ++ b)
consumes-more None y z a b p q = tt
consumes-more (Some xs) None z a b p q = elim p [ ]
consumes-more (Some xs) (Some ys) None a b p q = elim q [ ]
consumes-more (Some xs) (Some ys) (Some zs) a b p q = p ∙ ap (λ (l : List ℕ). a ++ l) q ∙ sym (append_assoc a b zs)

pub state-more : (input more : List ℕ) {x y : Held} → x ≡ state_of input → y ≡ held_after x more → y ≡ state_of (input ++ more)
unfolding state_of
state-more input more p q = q ∙ ap (λ (h : Held). held_after h more) p ∙ sym (after-append input more (part []))

pub text-none : (h : Held) → held_text h [] ≡ []
unfolding held_text
text-none h = refl

-- a piece read in two goes
pub held-on : (chunk : List ℕ) (from read : ℕ) (h : Held) {x y : Held} → x ≡ held_after h (take from chunk)
    → y ≡ held_after x (take read (take (length chunk - from) (drop from chunk)))
    → y ≡ held_after h (take (from + read) chunk)
held-on chunk from read h {x} {y} p q =
    let e : take (length chunk - from) (drop from chunk) ≡ drop from chunk =
    take_all (length chunk - from) (drop from chunk) (omega (arith, length-drop from chunk)) in
    q
    ∙ (λ i. held_after (p i) (take read (e i)))
    ∙ sym (after-append (take from chunk) (take read (drop from chunk)) h)
    ∙ ap (held_after h) (sym (take-add from read chunk))

pub text-on : (chunk : List ℕ) (from read : ℕ) (h : Held) {x : Held} → x ≡ held_after h (take from chunk)
    → held_text h (take (from + read) chunk)
    ≡ held_text h (take from chunk) ++ held_text x (take read (take (length chunk - from) (drop from chunk)))
text-on chunk from read h {x} p =
    let e : take (length chunk - from) (drop from chunk) ≡ drop from chunk =
    take_all (length chunk - from) (drop from chunk) (omega (arith, length-drop from chunk)) in
    ap (held_text h) (take-add from read chunk)
    ∙ text-append (take from chunk) (take read (drop from chunk)) h
    ∙ sym (λ i. held_text h (take from chunk) ++ held_text (p i) (take read (e i)))
