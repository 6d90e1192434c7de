-- What a write and a read promise.
use Rattle.std.specs.Prelude.{◌≡◌, List, ◌++◌, ℕ, zero, suc, ℤ, length, take, drop, Result, Ok, Err}
use Rattle.places.specs.Places.{column_of}
use Rattle.deck.specs.Deck.{Deck, columns, deck_refusal}
use Rattle.deck_file.specs.Layout.{file_of, count_in, read_of}
use Rattle.deck_file.specs.Refusals.{file_refusal, write_refusal, read_refusal}
use Rattle.refusal.specs.Refusals.{given}

-- ---- the answer

-- the length of the file or the number of swatches, or the number of the refusal that applies
abbrev pub Transfer : Type 0
Transfer = Result ℕ ℕ

abbrev pub transfer_of : ℕ → ℕ → Transfer
transfer_of refusal n = given refusal n

-- the refusal's number; 0 is no refusal
abbrev pub transfer_number : Transfer → ℕ
transfer_number (Ok n) = 0
transfer_number (Err k) = k

-- the length or the number of swatches, which is 0 on a refusal
abbrev pub transfer_size : Transfer → ℕ
transfer_size (Ok n) = n
transfer_size (Err k) = 0

abbrev pub write_answer : Deck → ℕ → Transfer
write_answer d room = transfer_of (write_refusal d room) (length (file_of d))

-- ---- what a lent list holds afterwards

module _ {A : Type 0} where
  -- what was written stands at the front; entries past it, and the whole list on a refusal, stay
  unfoldable pub contents_of : ℕ → List A → List A → List A
  contents_of zero front old = front ++ drop (length front) old
  contents_of (suc k) front old = old

-- three columns that were lent
pub record Columns : Type 0 where
  pub l : List ℤ
  pub a : List ℤ
  pub b : List ℤ

abbrev pub lent : List ℤ → List ℤ → List ℤ → Columns
lent l a b = record { l = l; a = a; b = b }

-- the refusal of a read to lent columns
abbrev pub lent_refusal : List ℕ → Columns → ℕ
lent_refusal bs old = read_refusal bs (length old.l) (length old.a) (length old.b)

abbrev pub read_answer : List ℕ → Columns → Transfer
read_answer bs old = transfer_of (lent_refusal bs old) (count_in bs)

-- the columns of a deck, in front of what the lent ones held
unfoldable pub columns_after : ℕ → Deck → Columns → Columns
columns_after refusal d old =
    record {
      l = contents_of refusal (column_of (λ k. (d.colour k).l) d.count) old.l;
      a = contents_of refusal (column_of (λ k. (d.colour k).a) d.count) old.a;
      b = contents_of refusal (column_of (λ k. (d.colour k).b) d.count) old.b;
    }

-- the deck that the first n entries of three columns make, and the entries past them
abbrev pub front : ℕ → Columns → Deck
front n c = columns (take n c.l) (take n c.a) (take n c.b)

abbrev pub rest : ℕ → Columns → Columns
rest n c = lent (drop n c.l) (drop n c.a) (drop n c.b)

-- ---- the promises

-- the bytes and the deck are each other's: reading the bytes gives the deck, and writing the deck gives the bytes
pub record IsFile (bs : List ℕ) (d : Deck) : Type 0 where
  pub accepted : file_refusal bs ≡ 0
  pub read : read_of bs ≡ d
  pub valid : deck_refusal d ≡ 0
  pub written : file_of d ≡ bs

-- of a deck, and the caller's list before and after
pub record Writes (d : Deck) (old new : List ℕ) (r : Transfer) : Type 0 where
  -- for every call, the answer and the list
  pub answer : r ≡ write_answer d (length old)
  pub contents : new ≡ contents_of (write_refusal d (length old)) (file_of d) old
  -- the refusal's number, the first that applies of 6, 7 and 13
  pub number : transfer_number r ≡ write_refusal d (length old)
  -- from the length that is answered on, which on a refusal is 0, the list is as it was
  pub kept : drop (transfer_size r) new ≡ drop (transfer_size r) old
  -- reading what was written gives the deck
  pub back : write_refusal d (length old) ≡ 0 → IsFile (take (transfer_size r) new) d

-- of some bytes, and the caller's columns before and after
pub record Reads (bs : List ℕ) (old new : Columns) (r : Transfer) : Type 0 where
  -- for every call, the answer and the columns
  pub answer : r ≡ read_answer bs old
  pub contents : new ≡ columns_after (lent_refusal bs old) (read_of bs) old
  -- the refusal's number, the first that applies of 10, 11, 12, 6, 7 and 13
  pub number : transfer_number r ≡ lent_refusal bs old
  -- from the count that is answered on, which on a refusal is 0, the columns are as they were
  pub kept : rest (transfer_size r) new ≡ rest (transfer_size r) old
  -- writing what was read gives the bytes
  pub back : lent_refusal bs old ≡ 0 → IsFile bs (front (transfer_size r) new)
