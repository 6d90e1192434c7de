-- What an `Int` is in ℤ, and what a contract says of a result: `is` its value, `size` its size or a bound of it.
-- Assumes nothing.
use Rattle.std.specs.Prelude.{◌≡◌, ℕ, ◌+◌, ◌≤◌, max, ℤ, pos, nat_abs, ◌-ℤ◌}
use Rattle.signed.specs.Value.{with_sign}
use Rattle.signed.specs.declared.Int.{Int}

unfoldable pub int : Int → ℤ
int a = with_sign a.neg a.n

-- r is z, and its size is n
pub record Exactly (z : ℤ) (n : ℕ) (r : Int) : Type 0 where
  pub is : int r ≡ z
  pub size : r.n ≡ n

-- r is z, and its size is at most n
pub record Within (z : ℤ) (n : ℕ) (r : Int) : Type 0 where
  pub is : int r ≡ z
  pub size : r.n ≤ n

-- r is x - y
pub record Apart (x y : ℕ) (r : Int) : Type 0 where
  pub is : int r ≡ pos x -ℤ pos y
  pub size : r.n ≤ x + y
  pub most : r.n ≤ max x y

-- r is the size of a
pub record Size (a : Int) (r : ℕ) : Type 0 where
  pub is : r ≡ nat_abs (int a)
  pub size : r ≡ a.n
