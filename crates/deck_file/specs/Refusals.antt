-- Which bytes, which decks and which rooms are refused: 10, 11, 12, then the deck's 6 and 7, then 13.
use Rattle.std.specs.Prelude.{Bool, cond, ◌&&◌, List, [], ◌∷◌, ℕ, ◌+◌, ◌*◌, leb, eqb, length, take}
use Rattle.buffer.specs.Numbers.{same}
use Rattle.refusal.specs.Refusals.{first_refusal}
use Rattle.deck.specs.Deck.{Deck, deck_refusal}
use Rattle.deck_file.specs.Layout.{mark, version, file_of, version_in, count_in, read_of}

-- 10: the mark is wrong, or the bytes end inside it
unfoldable pub mark_refusal : List ℕ → ℕ
mark_refusal bs = cond (same (take 3 bs) mark) 0 10

-- 11: the version is not 1, or the bytes end inside it
unfoldable pub version_refusal : List ℕ → ℕ
version_refusal bs = cond (leb 5 (length bs) && eqb (version_in bs) version) 0 11

-- 12: the length is not 7 + 12 × count; bytes that end inside the count are fewer than 7
unfoldable pub length_refusal : List ℕ → ℕ
length_refusal bs = cond (eqb (length bs) (7 + 12 * count_in bs)) 0 12

-- the first that applies to some bytes
unfoldable pub file_refusal : List ℕ → ℕ
file_refusal bs =
    first_refusal (mark_refusal bs ∷ version_refusal bs ∷ length_refusal bs ∷ deck_refusal (read_of bs) ∷ [])

-- 13: the room is too short; tested last
abbrev pub room_refusal : Bool → ℕ
room_refusal enough = cond enough 0 13

-- the first that applies to the write of a deck to a list with this room
unfoldable pub write_refusal : Deck → ℕ → ℕ
write_refusal d room = first_refusal (deck_refusal d ∷ room_refusal (leb (length (file_of d)) room) ∷ [])

-- the first that applies to the read of some bytes to columns with these rooms, each of which needs its own
unfoldable pub read_refusal : List ℕ → ℕ → ℕ → ℕ → ℕ
read_refusal bs l a b =
    let n = count_in bs in first_refusal (file_refusal bs ∷ room_refusal (leb n l && (leb n a && leb n b)) ∷ [])
