-- What a search promises, of a query, a deck, and the caller's list before and after.
use Rattle.std.specs.Prelude.{◌≡◌, ℕ, ◌≤◌, ◌<◌, List, length}
use Rattle.places.specs.Places.{tally}
use Rattle.refusal.specs.Refusals.{first_of}
use Rattle.deck.specs.Deck.{Deck, Query, fixed_query, search_refusal, match_at, match_list}
use Rattle.deck.specs.Answers.{Found, Short, found_of, contents_of, room_refusal, number_of, count_of, Refuses}
use Rattle.deck.specs.ListsMatches.{ListsMatches}

-- the places that match
abbrev pub search_matches : Query → Deck → List ℕ
search_matches q d = match_list (fixed_query q) d

-- their number, counted without a list
abbrev pub search_tally : Query → Deck → ℕ
search_tally q d = tally (match_at (fixed_query q) d) d.count

-- the answer to a caller whose list has this room
abbrev pub search_answer : Query → Deck → ℕ → Found
search_answer q d room = found_of (search_refusal q d) (search_matches q d) room

-- what the caller's list holds afterwards
abbrev pub search_contents : Query → Deck → List ℕ → List ℕ
search_contents q d old = contents_of (search_refusal q d) (search_matches q d) old

-- the first that applies of refusals 1 to 8
abbrev pub search_number : Query → Deck → ℕ → ℕ
search_number q d room = first_of (search_refusal q d) (room_refusal (search_tally q d) room)

-- the whole promise: `old` is the caller's list before the search and `new` after it
pub record Searches (q : Query) (d : Deck) (old new : List ℕ) (r : Found) : Type 0 where
  -- for every call, the answer and the list
  pub answer : r ≡ search_answer q d (length old)
  pub contents : new ≡ search_contents q d old
  -- the refusal's number, the first that applies of 1 to 8
  pub number : number_of r ≡ search_number q d (length old)
  -- what a refusal of 1 to 7 gives
  pub refused : 0 < search_refusal q d → Refuses (search_refusal q d) 0 r old new
  -- what refusal 8 gives
  pub short : search_refusal q d ≡ 0 → length old < search_tally q d
      → (r ≡ Short (search_tally q d)) × Refuses 8 (search_tally q d) r old new
  -- what the list holds where there is no refusal
  pub listed : search_refusal q d ≡ 0 → search_tally q d ≤ length old → ListsMatches (fixed_query q) d (count_of r) old new
