-- The array that holds the line that is not ended yet.
use mathlib.Core.Path.{◌≡◌, sym}
use mathlib.Core.List.{List, [], ◌∷◌, ◌++◌}
use Prim.Native.Nat.{ℕ, ◌+◌, ◌≤◌, ◌<◌}
use native.Mathlib.Numerals.{add-one}
use native.Mathlib.Decide.{dec_lt}
use native.Mathlib.Omega.{arith}
use lib.ListN.{length, take, set, length-append}
use lib.Seq.{take-suc-set, length-take-le}
use borrow.Author.Tests.{lt-ltb, le-ltb}
use Rattle.std.specs.Prelude.{Some}
use Rattle.text.specs.Text.{line_most, part, too_long, held_of}
use Rattle.text.specs.Stream.{held_with, held_in}

of_part : (l : List ℕ) → length l ≤ line_most → held_of l ≡ part l
unfolding held_of
of_part l h = rw (le-ltb _ _ h)

of-long : (l : List ℕ) → line_most < length l → held_of l ≡ too_long
unfolding held_of
of-long l h = rw (lt-ltb _ _ h)

-- one byte more of a line
pub with-of : (l : List ℕ) (b : ℕ) → held_with (held_of l) b ≡ held_of (l ++ (b ∷ []))
unfolding held_with
with-of l b = by_length (dec_lt line_most (length l))
  where
    by_length : Dec (line_most < length l) → held_with (held_of l) b ≡ held_of (l ++ (b ∷ []))
    by_length (yes h) = rw (of-long l h) (sym (of-long (l ++ (b ∷ [])) (rw length-append (omega arith))))
    by_length (no h) = rw (of_part l (omega arith))

-- the line in an array after one byte more
module _ (l : List ℕ) (b : ℕ) (e : length l ≡ line_most) where
  pub push-some : {n : ℕ} → n < line_most → held_in (set l n b) (Some (n + 1)) ≡ held_with (held_in l (Some n)) b
  unfolding held_with
  push-some {n} h =
      let t : take (n + 1) (set l n b) ≡ take n l ++ (b ∷ []) = rw add-one (take-suc-set l n b (omega arith)) in
      let s : length (take n l) ≡ n = length-take-le n l (omega arith) in
      let long : length (take n l ++ (b ∷ [])) ≤ line_most = rw length-append (omega arith) in
      rw (le-ltb line_most n (omega arith), le-ltb line_most (n + 1) (omega arith), t) (sym (of_part _ long))

  pub push-most : {n : ℕ} → line_most ≤ n → too_long ≡ held_with (held_in l (Some n)) b
  unfolding held_with
  push-most {n} h = by_length (dec_lt line_most n)
    where
      by_length : Dec (line_most < n) → too_long ≡ held_with (held_in l (Some n)) b
      by_length (yes k) = rw (lt-ltb _ _ k)
      by_length (no k) =
          let s : length (take n l) ≡ n = length-take-le n l (omega arith) in
          rw (le-ltb line_most n (omega arith)) (sym (of-long (take n l ++ (b ∷ [])) (rw length-append (omega arith))))
