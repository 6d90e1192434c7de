-- What the inner functions answer.
use Rattle.std.specs.Prelude.{List, [], ◌∷◌, ℕ, ◌+◌, ◌*◌, ℤ}
use Rattle.buffer.specs.Numbers.{signed_of, field}
use Rattle.sample.specs.Sample.{Colour}
use Rattle.refusal.specs.Refusals.{first_refusal}
use Rattle.deck_file.specs.Refusals.{mark_refusal, version_refusal, length_refusal}

-- the first that applies of 10, 11 and 12
unfoldable pub form_refusal : List ℕ → ℕ
form_refusal bs = first_refusal (mark_refusal bs ∷ version_refusal bs ∷ length_refusal bs ∷ [])

abbrev pub colour : ℤ → ℤ → ℤ → Colour
colour l a b = record { l = l; a = a; b = b }

-- the numbers that stand 12 bytes apart from a place on
abbrev pub column_in : List ℕ → ℕ → ℕ → ℤ
column_in bs first k = signed_of (field (first + 12 * k) 4 bs)
