-- What the list holds after a search that was not refused. The listed places are the entries before the count.
use Rattle.std.specs.Prelude.{◌≡◌, List, ℕ, ◌+◌, ◌*◌, ◌≤◌, ◌<◌, nat_abs, length, get_or, take}
use Rattle.places.specs.Places.{Among, tally}
use Rattle.sample.specs.Sample.{colour_sample}
use Rattle.difference.specs.Pair.{lightness_difference}
use Rattle.deck.specs.Deck.{Deck, FixedQuery, difference_at, match_at}

abbrev pub listed : ℕ → List ℕ → List ℕ
listed count list = take count list

-- `old` is the caller's list before the search and `new` after it
pub record ListsMatches (q : FixedQuery) (d : Deck) (count : ℕ) (old new : List ℕ) : Type 0 where
  -- a place is listed exactly when its difference is at most the tolerance, by the verdict's rule
  pub sound : (k : ℕ) → Among k (listed count new) → difference_at q d k ≤ 100 * q.tolerance
  pub complete : (k : ℕ) → k < d.count → difference_at q d k ≤ 100 * q.tolerance → Among k (listed count new)
  -- each listed place is a place of the deck, and they rise, so that each is listed once
  pub inside : (k : ℕ) → Among k (listed count new) → k < d.count
  pub rises : (i j : ℕ) → i < j → j < count → get_or new i 0 < get_or new j 0
  -- the count is the number of the listed places, and that of the places that match
  pub number : count ≡ length (listed count new)
  pub counted : count ≡ tally (match_at q d) d.count
  -- the lightness bound: dL is the reading's L less the swatch's
  pub bound : (k : ℕ) → Among k (listed count new)
      → 40000 * nat_abs (lightness_difference (colour_sample (d.colour k)) q.reading)
      ≤ 7 * q.weights.l * (q.tolerance + 1)
  -- the list keeps its length, and the entries past the count their contents
  pub size : length new ≡ length old
  pub kept : (i : ℕ) → count ≤ i → get_or new i 0 ≡ get_or old i 0
