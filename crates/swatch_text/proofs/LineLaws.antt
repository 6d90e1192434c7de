-- Values in a line, and a line at the front of a buffer. Assumes nothing.
use mathlib.Core.Path.{◌≡◌, ap}
use mathlib.Core.List.{List, [], ◌∷◌, ◌++◌}
use Prim.Native.Nat.{ℕ, ◌^◌, ◌<◌}
use lib.IntN.{ℤ}
use lib.Signed.{mag}
use mir.Syntax.{w32}
use mir.Val.{hbits, of_z, to_z}
use mir.Facts.{to_z-of_z}
use borrow.Author.Rules.{sfits_of}
use Rattle.buffer.specs.Writing.{Written}
use Rattle.buffer.proofs.WritingLaws.{written_is}
use Rattle.decimal.specs.Writing.{fixed_text}

-- a value that was read as y
pub value_written : {out last : List ℕ} {at n r : ℕ} (end : ℕ) {y z : ℤ} → y ≡ z → Written out at (fixed_text 4 y ++ (end ∷ [])) n last r
    → Written out at (fixed_text 4 z ++ (end ∷ [])) n last r
value_written end e w = written_is (ap (λ v. fixed_text 4 v ++ (end ∷ [])) e) w

-- or as what is read back of a number of 32 bits
pub stored-written : {out last : List ℕ} {at n r : ℕ} (end : ℕ) (z : ℤ) → mag z < 2 ^ hbits w32
    → Written out at (fixed_text 4 (to_z w32 (of_z w32 z)) ++ (end ∷ [])) n last r → Written out at (fixed_text 4 z ++ (end ∷ [])) n last r
stored-written end z h w = value_written end (to_z-of_z {w = w32} (sfits_of h)) w
