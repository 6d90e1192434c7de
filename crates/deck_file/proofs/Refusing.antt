-- The refusals of a write and of a read, from what each test found. Assumes nothing.
use mathlib.Core.Path.{◌≡◌, refl, sym, ap, ap₂, ◌∙◌}
use mathlib.Core.Bool.{Bool, true, false, ◌&&◌, cond, and-eq-true_iff}
use mathlib.Core.List.{List, [], ◌∷◌}
use Prim.Native.Nat.{ℕ, ◌+◌, ◌*◌, ◌≤◌, ◌<◌}
use lib.Dec.{leb, eqb}
use lib.ListN.{length, take}
use borrow.Author.Tests.{le-leb, lt-leb, leb-true, eq-eqb, ne_eqb}
use Rattle.refusal.specs.Refusals.{number_of, first_of, first_refusal}
use Rattle.refusal.specs.declared.Refusal.{Refusal}
use Rattle.refusal.proofs.RefusalLaws.{first-none, first-last, first-cons, first-assoc, first-refused}
use Rattle.buffer.specs.Numbers.{same}
use Rattle.deck.specs.Deck.{Deck, deck_refusal}
use Rattle.deck_file.specs.Layout.{mark, version, file_of, version_in, count_in, read_of}
use Rattle.deck_file.specs.Refusals.{mark_refusal, version_refusal, length_refusal, file_refusal, room_refusal}
use Rattle.deck_file.specs.Refusals.{write_refusal, read_refusal}
use Rattle.deck_file.specs.Inner.{form_refusal}
use Rattle.deck_file.proofs.RoundTrip.{passed, file-length, file-is}

-- ---- the form of a file

module _ (bs : List ℕ) where
  abbrev version_right : Bool
  version_right = leb 5 (length bs) && eqb (version_in bs) version

  abbrev length_right : Bool
  length_right = eqb (length bs) (7 + 12 * count_in bs)

  form-is : (m v l : Bool) → same (take 3 bs) mark ≡ m → version_right ≡ v → length_right ≡ l
      → first_refusal (cond m 0 10 ∷ cond v 0 11 ∷ cond l 0 12 ∷ []) ≡ form_refusal bs
  unfolding form_refusal mark_refusal version_refusal length_refusal
  form-is m v l e f g = sym (λ i. first_refusal (cond (e i) 0 10 ∷ cond (f i) 0 11 ∷ cond (g i) 0 12 ∷ []))

  pub mark-wrong : same (take 3 bs) mark ≡ false → 10 ≡ form_refusal bs
  unfolding first_refusal
  mark-wrong m = form-is false version_right length_right m refl refl

  module _ (m : same (take 3 bs) mark ≡ true) where
    pub version-short : length bs < 5 → 11 ≡ form_refusal bs
    unfolding first_refusal
    version-short h =
        form-is true false length_right m (ap (λ t. t && eqb (version_in bs) version) (lt-leb 5 (length bs) h)) refl

    pub version-wrong : 5 ≤ length bs → (version_in bs ≡ version → ⊥) → 11 ≡ form_refusal bs
    unfolding first_refusal
    version-wrong h f = form-is true false length_right m (ap₂ ◌&&◌ (le-leb 5 (length bs) h) (ne_eqb _ _ f)) refl

    module _ (h : 5 ≤ length bs) (v : version_in bs ≡ version) where
      right : version_right ≡ true
      right = ap₂ ◌&&◌ (le-leb 5 (length bs) h) (eq-eqb _ _ v)

      pub length-wrong : (length bs ≡ 7 + 12 * count_in bs → ⊥) → 12 ≡ form_refusal bs
      unfolding first_refusal
      length-wrong f = form-is true true false m right (ne_eqb _ _ f)

      pub form-right : length bs ≡ 7 + 12 * count_in bs → 0 ≡ form_refusal bs
      unfolding first_refusal
      form-right e = form-is true true true m right (eq-eqb _ _ e)

-- ---- the order

two-are : (m n : ℕ) → first_refusal (m ∷ n ∷ []) ≡ first_of m n
two-are m n = first-cons m (n ∷ []) ∙ ap (λ k. first_of m k) (first-last n)

module _ (d : Deck) (room : ℕ) where
  write-is : write_refusal d room ≡ first_of (deck_refusal d) (room_refusal (leb (7 + 12 * d.count) room))
  unfolding write_refusal
  write-is =
      two-are (deck_refusal d) _ ∙ ap (λ n. first_of (deck_refusal d) (room_refusal (leb n room))) (file-length d)

  pub write-by-deck : (e : Refusal) → number_of e ≡ deck_refusal d → number_of e ≡ write_refusal d room
  write-by-deck e h = sym (write-is ∙ first-refused e _ h)

  pub write-by_room : {r : ℕ} → 0 ≡ deck_refusal d → r ≡ room_refusal (leb (7 + 12 * d.count) room) → r ≡ write_refusal d room
  write-by_room {r} e f =
      f ∙ ap (λ k. first_of k (room_refusal (leb (7 + 12 * d.count) room))) e ∙ sym write-is

  pub write-accepts : write_refusal d room ≡ 0 → (deck_refusal d ≡ 0) × (length (file_of d) ≤ room)
  unfolding write_refusal
  write-accepts ok =
      let h = first-none _ _ (sym (two-are (deck_refusal d) _) ∙ ok) in (h.0, leb-true _ _ (passed _ 12 h.1))

module _ (bs : List ℕ) (l a b : ℕ) where
  abbrev by_room : ℕ
  by_room = room_refusal (leb (count_in bs) l && (leb (count_in bs) a && leb (count_in bs) b))

  read_is : read_refusal bs l a b ≡ first_of (form_refusal bs) (first_of (deck_refusal (read_of bs)) by_room)
  unfolding read_refusal
  read_is =
      two-are (file_refusal bs) by_room ∙ ap (λ k. first_of k by_room) (sym (file-is bs))
      ∙ first-assoc (form_refusal bs) (deck_refusal (read_of bs)) by_room

  pub read-by-form : (e : Refusal) → number_of e ≡ form_refusal bs → number_of e ≡ read_refusal bs l a b
  read-by-form e h = sym (read_is ∙ first-refused e _ h)

  pub read-by-deck : (e : Refusal) → 0 ≡ form_refusal bs → number_of e ≡ deck_refusal (read_of bs) → number_of e ≡ read_refusal bs l a b
  read-by-deck e z h =
      sym (read_is ∙ ap (λ k. first_of k (first_of (deck_refusal (read_of bs)) by_room)) (sym z) ∙ first-refused e _ h)

  pub read-by_room : {r : ℕ} → 0 ≡ form_refusal bs → 0 ≡ deck_refusal (read_of bs) → r ≡ by_room → r ≡ read_refusal bs l a b
  read-by_room z d h =
      h ∙ sym (read_is ∙ ap₂ first_of (sym z) (ap (λ k. first_of k by_room) (sym d)))

  pub record Accepts : Type 0 where
    pub file : file_refusal bs ≡ 0
    pub l_room : count_in bs ≤ l
    pub a_room : count_in bs ≤ a
    pub b_room : count_in bs ≤ b

  pub read-accepts : read_refusal bs l a b ≡ 0 → Accepts
  unfolding read_refusal
  read-accepts ok =
      let h = first-none _ _ (sym (two-are (file_refusal bs) _) ∙ ok) in
      let rooms = (and-eq-true_iff (leb (count_in bs) l) _).0 (passed _ 12 h.1) in
      let others = (and-eq-true_iff (leb (count_in bs) a) (leb (count_in bs) b)).0 rooms.1 in
      record { file = h.0; l_room = leb-true _ _ rooms.0; a_room = leb-true _ _ others.0; b_room = leb-true _ _ others.1 }
