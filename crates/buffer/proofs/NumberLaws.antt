-- Numbers in bytes and back, and the bytes at a place. Assumes nothing.
use mathlib.Core.Path.{◌≡◌, refl, sym, ap, ap₂, ◌∙◌}
use mathlib.Core.Bool.{true, ◌&&◌, true≢false, and-eq-true_iff}
use mathlib.Core.List.{List, [], ◌∷◌, ◌++◌}
use Prim.Native.Nat.{ℕ, zero, suc, ◌+◌, ◌*◌, ◌/◌, ◌%◌, ◌^◌, ◌≤◌, ◌<◌}
use native.Mathlib.Nat.{pow-suc}
use native.Mathlib.Numerals.{add-one}
use native.Mathlib.Omega.{arith}
use borrow.Author.Rules.{sfits_of}
use borrow.Author.Tests.{eqb-true}
use lib.Dec.{eqb, lit<}
use lib.IntN.{ℤ}
use lib.Signed.{mag}
use lib.ListN.{length, get_or, take, drop, length-drop}
use lib.Seq.{drop-cons, drop-drop, take-add, get_or-drop, length-take-le}
use lib.Pointwise.{pointwise}
use mir.Syntax.{w16, w32}
use mir.Val.{hbits, of_z, to_z}
use mir.Facts.{to_z-of_z, of_z-to_z, Fits-of_z}
use Rattle.std.specs.Bool.{one_answer}
use Rattle.std.specs.Int.{to_le_bytes}
use Rattle.std.proofs.lemmas.Bool.Decides.{Decides-eqb}
use Rattle.buffer.specs.Numbers.{bytes_of, unsigned_of, signed_bytes, signed_of, field, same}

-- ---- the bytes at a place

pub field-cons : (bs : List ℕ) (at n : ℕ) → at < length bs → field at (suc n) bs ≡ get_or bs at 0 ∷ field (at + 1) n bs
field-cons bs at n h = rw (add-one at) (ap (take (suc n)) (drop-cons bs at 0 h))

-- two fields one after the other
pub field-join : (bs : List ℕ) (at m n : ℕ) → field at m bs ++ field (at + m) n bs ≡ field at (m + n) bs
field-join bs at m n =
    ap (λ t. field at m bs ++ take n t) (sym (drop-drop m at bs)) ∙ sym (take-add m n (drop at bs))

pub field-length : (bs : List ℕ) (at n : ℕ) → at + n ≤ length bs → length (field at n bs) ≡ n
field-length bs at n h = length-take-le n (drop at bs) (simp length-drop (omega arith))

-- the first byte of a field and the rest
pub unsigned-cons : (bs : List ℕ) (at next n : ℕ) → next ≡ at + 1 → at < length bs
    → unsigned_of (field at (suc n) bs) ≡ get_or bs at 0 + 256 * unsigned_of (field next n bs)
unfolding unsigned_of
unsigned-cons bs at next n e h = ap unsigned_of (field-cons bs at n h) ∙ ap (λ k. get_or bs at 0 + 256 * unsigned_of (field k n bs)) (sym e)

pub unsigned-none : (bs : List ℕ) (at : ℕ) → unsigned_of (field at 0 bs) ≡ 0
unfolding unsigned_of
unsigned-none bs at = refl

-- ---- from a number to its bytes and back

pub bytes-length : (n x : ℕ) → length (bytes_of n x) ≡ n
unfolding bytes_of
bytes-length zero x = refl
bytes-length (suc n) x = ap suc (bytes-length n (x / 256))

-- the library's bytes of a number
pub le-bytes-two : (x : ℕ) → to_le_bytes w16 x ≡ bytes_of 2 x
unfolding bytes_of
le-bytes-two x = refl

pub le-bytes-four : (x : ℕ) → to_le_bytes w32 x ≡ bytes_of 4 x
unfolding bytes_of
le-bytes-four x =
    let third : x / 65536 % 256 ≡ x / 256 / 256 % 256 = omega arith in
    let fourth : x / 16777216 % 256 ≡ x / 256 / 256 / 256 % 256 = omega arith in
    ap₂ (λ y z. x % 256 ∷ x / 256 % 256 ∷ y ∷ z ∷ []) third fourth

pub unsigned_bytes : (n x : ℕ) → x < 256 ^ n → unsigned_of (bytes_of n x) ≡ x
unfolding bytes_of unsigned_of
unsigned_bytes zero x h = omega (arith, h)
unsigned_bytes (suc n) x h =
    let g : x < 256 ^ n * 256 = rw pow-suc at h in
    let e : unsigned_of (bytes_of n (x / 256)) ≡ x / 256 = unsigned_bytes n (x / 256) (omega arith) in
    omega arith

-- each entry is a byte; past the end stands 0
abbrev pub Bytes : List ℕ → Type 0
Bytes bs = (i : ℕ) → get_or bs i 0 < 256

bytes_take : (n : ℕ) (xs : List ℕ) → Bytes xs → Bytes (take n xs)
bytes_take zero xs h i = lit< tt
bytes_take (suc n) [] h i = lit< tt
bytes_take (suc n) (x ∷ xs) h zero = h 0
bytes_take (suc n) (x ∷ xs) h (suc i) = bytes_take n xs (λ j. h (suc j)) i

pub bytes-field : (bs : List ℕ) (at n : ℕ) → Bytes bs → Bytes (field at n bs)
bytes-field bs at n h = bytes_take n (drop at bs) (λ i. rw get_or-drop (h (at + i)))

pub unsigned-below : (bs : List ℕ) → Bytes bs → unsigned_of bs < 256 ^ length bs
unfolding unsigned_of
unsigned-below [] h = lit< tt
unsigned-below (b ∷ bs) h =
    let first : b < 256 = h 0 in
    let rest : unsigned_of bs < 256 ^ length bs = unsigned-below bs (λ i. h (suc i)) in
    rw pow-suc (omega arith)

pub bytes_unsigned : (bs : List ℕ) → Bytes bs → bytes_of (length bs) (unsigned_of bs) ≡ bs
unfolding bytes_of unsigned_of
bytes_unsigned [] h = refl
bytes_unsigned (b ∷ bs) h =
    let first : b < 256 = h 0 in
    let rest = bytes_unsigned bs (λ i. h (suc i)) in
    let low : (b + 256 * unsigned_of bs) % 256 ≡ b = omega arith in
    let high : (b + 256 * unsigned_of bs) / 256 ≡ unsigned_of bs = omega arith in
    ap₂ (λ x y. x ∷ bytes_of (length bs) y) low high ∙ ap (λ t. b ∷ t) rest

pub bytes-of-field : (bs : List ℕ) (at n : ℕ) → Bytes bs → at + n ≤ length bs
    → bytes_of n (unsigned_of (field at n bs)) ≡ field at n bs
bytes-of-field bs at n h k =
    ap (λ m. bytes_of m (unsigned_of (field at n bs))) (sym (field-length bs at n k))
    ∙ bytes_unsigned (field at n bs) (bytes-field bs at n h)

-- ---- signed numbers

pub signed-length : (z : ℤ) → length (signed_bytes z) ≡ 4
unfolding signed_bytes
signed-length z = bytes-length 4 (of_z w32 z)

pub signed_back : (z : ℤ) → mag z < 2 ^ hbits w32 → signed_of (signed_bytes z) ≡ z
unfolding signed_bytes signed_of
signed_back z h =
    ap (to_z w32) (unsigned_bytes 4 (of_z w32 z) (Fits-of_z {w = w32} {z = z} (sfits_of h)).fits) ∙ to_z-of_z {w = w32} (sfits_of h)

pub bytes_back : (bs : List ℕ) (at : ℕ) → Bytes bs → at + 4 ≤ length bs
    → signed_bytes (signed_of (field at 4 bs)) ≡ field at 4 bs
unfolding signed_bytes signed_of
bytes_back bs at h k =
    let below = unsigned-below (field at 4 bs) (bytes-field bs at 4 h) in
    let fits : unsigned_of (field at 4 bs) < 2 ^ 32 = rw (field-length bs at 4 k) at below in
    ap (bytes_of 4) (of_z-to_z {w = w32} (record { fits = fits })) ∙ bytes-of-field bs at 4 h k

-- ---- two texts

eqb_flips : (x y : ℕ) → eqb x y ≡ eqb y x
eqb_flips x y = one_answer _ _ (Decides-eqb x y) (λ e. sym ((Decides-eqb y x).0 e), λ e. (Decides-eqb y x).1 (sym e))

-- the library's equality of texts
pub pointwise-same : (xs ys : List ℕ) → pointwise eqb xs ys ≡ same xs ys
unfolding same
pointwise-same [] [] = refl
pointwise-same [] (y ∷ ys) = refl
pointwise-same (x ∷ xs) [] = refl
pointwise-same (x ∷ xs) (y ∷ ys) = ap (λ t. eqb x y && t) (pointwise-same xs ys)

pub same-flip : (xs ys : List ℕ) → same xs ys ≡ same ys xs
unfolding same
same-flip [] [] = refl
same-flip [] (y ∷ ys) = refl
same-flip (x ∷ xs) [] = refl
same-flip (x ∷ xs) (y ∷ ys) = ap₂ ◌&&◌ (eqb_flips x y) (same-flip xs ys)

pub same-is : (xs ys : List ℕ) → same xs ys ≡ true → xs ≡ ys
unfolding same
same-is [] [] e = refl
same-is [] (y ∷ ys) e = absurd (true≢false (sym e))
same-is (x ∷ xs) [] e = absurd (true≢false (sym e))
same-is (x ∷ xs) (y ∷ ys) e =
    let h = (and-eq-true_iff (eqb x y) (same xs ys)).0 e in ap₂ ◌∷◌ (eqb-true x y h.0) (same-is xs ys h.1)
