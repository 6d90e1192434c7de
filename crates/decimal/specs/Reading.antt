-- Reading a decimal: an optional minus, one to three digits, and optionally a point and one to four digits.
use Rattle.std.specs.Prelude.{Bool, true, false, ◌&&◌, cond, List, [], ◌∷◌, ℕ, zero, suc, ◌+◌, ◌-◌, ◌*◌, ◌^◌, leb, ltb, eqb, ℤ}
use Rattle.signed.specs.Value.{with_sign}

-- the bytes start with b
abbrev pub starts : ℕ → List ℕ → Bool
starts b [] = false
starts b (x ∷ xs) = eqb x b

-- the bytes after the first
abbrev pub after : List ℕ → List ℕ
after [] = []
after (x ∷ xs) = xs

-- the bytes after the one space that they start with, and none where they start with no space
unfoldable pub after_space : List ℕ → List ℕ
after_space bs = cond (starts 32 bs) (after bs) []

-- the digit that the bytes start with, and 10 where they start with none
abbrev pub digit_first : List ℕ → ℕ
digit_first [] = 10
digit_first (x ∷ xs) = cond (leb 48 x && leb x 57) (x - 48) 10

-- what was read at the start of some bytes, and the bytes after it
pub data Found (A : Type 0) : Type 0 where
  found : A → List ℕ → Found A
  missing : Found A

module _ {A B : Type 0} where
  -- what `next` reads after what was found
  abbrev pub and_then : Found A → (A → List ℕ → Found B) → Found B
  and_then (found x rest) next = next x rest
  and_then missing next = missing

-- a run of digits: the number that they make, how many they are, and the bytes after them
pub record Run : Type 0 where
  pub value : ℕ
  pub count : ℕ
  pub rest : List ℕ

-- the run goes on for at most `most` digits more, from n digits that made v
unfoldable pub run_on : ℕ → ℕ → ℕ → List ℕ → Run
run_on zero v n bs = record { value = v; count = n; rest = bs }
run_on (suc most) v n bs =
    cond (ltb (digit_first bs) 10) (run_on most (10 * v + digit_first bs) (n + 1) (after bs))
    (record { value = v; count = n; rest = bs })

-- the digits that the bytes start with, at most `most` of them
unfoldable pub run_of : ℕ → List ℕ → Run
run_of most bs = run_on most 0 0 bs

-- the digits after the point, at least one, in 1/10,000
unfoldable pub fraction_run : Run → Found ℕ
fraction_run r = cond (eqb r.count 0) missing (found (r.value * 10 ^ (4 - r.count)) r.rest)

-- a point and one to four digits, or nothing, in 1/10,000
unfoldable pub fraction_of : List ℕ → Found ℕ
fraction_of bs = cond (starts 46 bs) (fraction_run (run_of 4 (after bs))) (found 0 bs)

-- the digits before the point, at least one, and what may follow them, with a sign, in 1/10,000
unfoldable pub whole_run : Bool → Run → Found ℤ
whole_run neg r =
    cond (eqb r.count 0) missing
    (and_then (fraction_of r.rest) λ f rest. found (with_sign neg (r.value * 10000 + f)) rest)

-- a decimal as a whole number of 1/10,000, which it is exactly
unfoldable pub decimal_of : List ℕ → Found ℤ
decimal_of bs = cond (starts 45 bs) (whole_run true (run_of 3 (after bs))) (whole_run false (run_of 3 bs))
