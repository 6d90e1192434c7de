-- What a search answers and what it leaves in the caller's list, of the refusal that applies (0 where none does), the
-- places that match, and the list.
use Rattle.std.specs.Prelude.{◌≡◌, ℕ, zero, suc, cond, List, ◌++◌, leb, length, drop, Result, Ok, Err}
use Rattle.refusal.specs.Refusals.{number_of as refusal_number}
use Rattle.deck.specs.declared.SearchError.{SearchError}
use Rattle.deck.specs.declared.SearchError.TheVariants.{Refused as Refuses_by, Short as Needs}

-- what a search answers: the number of matches, the refusal's number, or that the list is too short, with the number of
-- entries that it needs
pub data Found : Type 0 where
  Count : ℕ → Found
  Refused : ℕ → Found
  Short : ℕ → Found

-- the answer of the code
abbrev pub found : Result ℕ SearchError → Found
found (Ok n) = Count n
found (Err (Refuses_by e)) = Refused (refusal_number e)
found (Err (Needs n)) = Short n

-- the number of matches where there is room for them, otherwise the number needed
unfoldable pub found_of : ℕ → List ℕ → ℕ → Found
found_of zero matches room = cond (leb (length matches) room) (Count (length matches)) (Short (length matches))
found_of (suc n) matches room = Refused (suc n)

-- the matches stand at the front; entries past them, and the whole list on a refusal, stay
unfoldable pub contents_of : ℕ → List ℕ → List ℕ → List ℕ
contents_of zero matches old = cond (leb (length matches) (length old)) (matches ++ drop (length matches) old) old
contents_of (suc n) matches old = old

-- 8: more matches than the list has room for
unfoldable pub room_refusal : ℕ → ℕ → ℕ
room_refusal needed room = cond (leb needed room) 0 8

-- ---- the number and the values of each case

-- the refusal number; 0 is no refusal
abbrev pub number_of : Found → ℕ
number_of (Count n) = 0
number_of (Refused k) = k
number_of (Short n) = 8

-- the count, which is 0 on every refusal
abbrev pub count_of : Found → ℕ
count_of (Count n) = n
count_of (Refused k) = 0
count_of (Short n) = 0

-- the number needed, which refusal 8 gives
abbrev pub needed_of : Found → ℕ
needed_of (Count n) = 0
needed_of (Refused k) = 0
needed_of (Short n) = n

-- a refusal: its number, the number needed that it gives (0 for all but 8), no matches, and the list as it was
pub record Refuses (number needed : ℕ) (r : Found) (old new : List ℕ) : Type 0 where
  pub number_is : number_of r ≡ number
  pub needed_is : needed_of r ≡ needed
  pub count_is : count_of r ≡ 0
  pub kept : new ≡ old
