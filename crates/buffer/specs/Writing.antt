-- Texts written one after the other into a lent buffer.
use Rattle.std.specs.Prelude.{◌≡◌, List, ℕ, ◌+◌, ◌≤◌, length}
use Rattle.std.proofs.lemmas.List.Edits.{sets}

-- `last` is `out` with the text, of at most n bytes, at the place `at`, and r is the place after it
pub record Written (out : List ℕ) (at : ℕ) (text : List ℕ) (n : ℕ) (last : List ℕ) (r : ℕ) : Type 0 where
  pub is : last ≡ sets out at text
  pub next : r ≡ at + length text
  pub size : length text ≤ n
