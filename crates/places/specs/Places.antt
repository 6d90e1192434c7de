-- The places of a deck, counted from 0: which of them satisfy a test, how many, and what a column holds at them.
-- A test goes from places to truth values and a column from places to numbers: how a deck is kept does not matter here.
use Rattle.std.specs.Prelude.{◌≡◌, Bool, true, cond, ◌&&◌, List, [], ◌∷◌, ◌++◌, ℕ, zero, suc, ◌+◌, ◌<◌, ℤ, pos, length, get_or}
use Rattle.std.specs.Int.Signed.{le_z}

-- ---- tests

-- x in front of xs where t is true
unfoldable pub keep : Bool → ℕ → List ℕ → List ℕ
keep t x xs = cond t (x ∷ xs) xs

-- the n places from p on at which f holds, in rising order
unfoldable pub hits : (ℕ → Bool) → ℕ → ℕ → List ℕ
hits f p zero = []
hits f p (suc n) = keep (f p) p (hits f (suc p) n)

-- the places below n at which f holds, in rising order
unfoldable pub matches_of : (ℕ → Bool) → ℕ → List ℕ
matches_of f n = hits f 0 n

-- how many places below n satisfy f, counted without a list
unfoldable pub tally : (ℕ → Bool) → ℕ → ℕ
tally f zero = 0
tally f (suc n) = tally f n + cond (f n) 1 0

-- f holds at each place below n
unfoldable pub every : (ℕ → Bool) → ℕ → Bool
every f zero = true
every f (suc n) = every f n && f n

-- ---- columns

-- what a column kept as a list holds at a place
abbrev pub at : List ℤ → ℕ → ℤ
at xs k = get_or xs k (pos 0)

-- the list that holds g at the places below n
module _ {A : Type 0} where
  unfoldable pub column_of : (ℕ → A) → ℕ → List A
  column_of g zero = []
  column_of g (suc n) = column_of g n ++ (g n ∷ [])

-- for all i < j < n, g holds no more at i than at j
unfoldable pub rising : (ℕ → ℤ) → ℕ → Bool
rising g n = every (λ j. every (λ i. le_z (g i) (g j)) j) n

-- ---- a list of places

-- k is one of the entries of xs, and stands at `index`
pub record Among (k : ℕ) (xs : List ℕ) : Type 0 where
  pub index : ℕ
  pub inside : index < length xs
  pub is : get_or xs index 0 ≡ k
