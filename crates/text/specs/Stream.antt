-- The input in pieces: what a run over it carries from piece to piece, and what each piece writes.
use Rattle.std.specs.Prelude.{◌≡◌, cond, List, [], ◌∷◌, ◌++◌, ℕ, ◌+◌, ◌≤◌, ◌<◌, ltb, eqb, length, take, Option, Some, None}
use Rattle.buffer.specs.Writing.{Written}
use Rattle.text.specs.Figures.{header_text}
use Rattle.text.specs.Text.{line_most, Held, part, too_long, held_of, held_answer}
use Rattle.text.specs.declared.State.{State}
use Rattle.text.specs.declared.Progress.{Progress}

-- the most bytes of an answer
abbrev pub answer_most : ℕ
answer_most = 138

-- one byte more, which is no newline
unfoldable pub held_with : Held → ℕ → Held
held_with (part l) b = held_of (l ++ (b ∷ []))
held_with too_long b = too_long

-- the line so far after more bytes
unfoldable pub held_after : Held → List ℕ → Held
held_after h [] = h
held_after h (b ∷ bs) = cond (eqb b 10) (held_after (part []) bs) (held_after (held_with h b) bs)

-- what more bytes write: each newline the answer of the line that it ends
unfoldable pub held_text : Held → List ℕ → List ℕ
held_text h [] = []
held_text h (b ∷ bs) = cond (eqb b 10) (held_answer h ++ held_text (part []) bs) (held_text (held_with h b) bs)

-- what the end of the input writes: the last line may lack its newline
unfoldable pub last_text : Held → List ℕ
last_text (part []) = []
last_text (part (b ∷ bs)) = held_answer (part (b ∷ bs))
last_text too_long = held_answer too_long

-- the line so far when the input's first bytes are read, and what they have written
unfoldable pub state_of : List ℕ → Held
state_of input = held_after (part []) input

unfoldable pub text_so_far : List ℕ → List ℕ
text_so_far input = header_text ++ held_text (part []) input

-- the first n bytes of an array, or more than a line has
abbrev pub held_in : List ℕ → Option ℕ → Held
held_in l (Some n) = cond (ltb line_most n) too_long (part (take n l))
held_in l None = too_long

abbrev pub state_held : State → Held
state_held s = held_in s.line s.len

-- A piece of the input, read from the state h on: `read` of its bytes. Less than all are read only where the buffer has
-- less room left than an answer may need.
pub record Stepped (h : Held) (chunk out last : List ℕ) (r : Progress) : Type 0 where
  pub read : r.read ≤ length chunk
  pub room : r.read < length chunk → length out < r.written + answer_most
  pub held : state_held r.state ≡ held_after h (take r.read chunk)
  pub text : Written out 0 (held_text h (take r.read chunk)) (length out) last r.written

-- the bytes `more`, read where `input` was read before: the state is that of both, and what was written follows what
-- `input` wrote
pub record Follows (input more out : List ℕ) (r : Progress) : Type 0 where
  pub state : state_held r.state ≡ state_of (input ++ more)
  pub text : text_so_far (input ++ more) ≡ text_so_far input ++ take r.written out
