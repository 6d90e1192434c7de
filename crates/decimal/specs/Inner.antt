-- What the code's struct and pair stand for.
use Rattle.std.specs.Prelude.{◌≡◌, List, ℕ, suc, ◌^◌, ◌≤◌, ◌<◌, ℤ, Option, Some, None}
use Rattle.std.specs.Borrow.{Bor}
use Rattle.signed.specs.Inner.{int}
use Rattle.signed.specs.declared.Int.{Int}
use Rattle.decimal.specs.Reading.{Found, found, missing, Run}
use Rattle.decimal.specs.Writing.{count_in}
use Rattle.decimal.specs.declared.Digits.{Digits}

unfoldable pub digit_count : ℕ → ℕ
digit_count n = count_in (suc n) n

abbrev pub run_in : Digits → Run
run_in d = record { value = d.value; count = d.count; rest = d.rest.now }

-- d is the run x, of at most `most` digits
pub record IsRun (most : ℕ) (x : Run) (d : Digits) : Type 0 where
  pub is : run_in d ≡ x
  pub few : d.count ≤ most
  pub small : d.value < 10 ^ d.count

-- a decimal and the bytes after it
abbrev pub decimal_found : Option (Int × Bor (List ℕ)) → Found ℤ
decimal_found (Some p) = found (int p.0) p.1.now
decimal_found None = missing
