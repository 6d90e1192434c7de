-- Writing a whole number of 10^-places with so many decimals; zero has no minus.
use Rattle.std.specs.Prelude.{cond, List, [], ◌∷◌, ◌++◌, ℕ, zero, suc, ◌+◌, ◌/◌, ◌%◌, ◌^◌, ltb, ℤ, pos, nat_abs}
use Rattle.std.specs.Int.Signed.{lt_z}

-- the last k digits of n
unfoldable pub last_digits : ℕ → ℕ → List ℕ
last_digits zero n = []
last_digits (suc k) n = last_digits k (n / 10) ++ ((48 + n % 10) ∷ [])

-- how many digits n has, counted in at most k steps
unfoldable pub count_in : ℕ → ℕ → ℕ
count_in zero n = 0
count_in (suc k) n = cond (ltb n 10) 1 (suc (count_in k (n / 10)))

-- the digits of n, with no 0 before the first that counts
unfoldable pub digits_of : ℕ → List ℕ
digits_of n = last_digits (count_in (suc n) n) n

unfoldable pub minus_of : ℤ → List ℕ
minus_of z = cond (lt_z z (pos 0)) (45 ∷ []) []

unfoldable pub fixed_text : ℕ → ℤ → List ℕ
fixed_text places z = minus_of z ++ (digits_of (nat_abs z / 10 ^ places) ++ (46 ∷ last_digits places (nat_abs z)))

-- `refused N` and a newline
unfoldable pub refused_text : ℕ → List ℕ
refused_text n = (114 ∷ 101 ∷ 102 ∷ 117 ∷ 115 ∷ 101 ∷ 100 ∷ 32 ∷ []) ++ (digits_of n ++ (10 ∷ []))
