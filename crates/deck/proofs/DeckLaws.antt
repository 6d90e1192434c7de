-- What no refusal says of a deck and of a search, and what each answer is. Assumes nothing.
use mathlib.Core.Path.{◌≡◌, refl, sym, ap, ap₂, ◌∙◌}
use mathlib.Core.Bool.{Bool, true, false, not, ◌&&◌, ◌||◌, cond, true≢false}
use mathlib.Core.List.{List, [], ◌∷◌, ◌++◌}
use Prim.Native.Nat.{ℕ, zero, suc, ◌≤◌, ◌<◌}
use native.Mathlib.Omega.{arith}
use borrow.Author.Tests.{eqb-true, eq-eqb, leb-true, le-leb, lt-leb}
use lib.Dec.{leb, eqb}
use lib.IntN.{ℤ}
use lib.ListN.{length, drop}
use Rattle.places.specs.Places.{rising}
use Rattle.places.proofs.PlacesLaws.{every-at}
use Rattle.sample.specs.Sample.{colour_refusal}
use Rattle.refusal.specs.Refusals.{number_of as refusal_number, first_of, first_refusal}
use Rattle.refusal.specs.declared.Refusal.{Refusal}
use Rattle.refusal.proofs.RefusalLaws.{none_of, not-zero, first-last, first-applies, first-refused, first_then}
use Rattle.fixed_point.specs.Refusals.{reading_refusal, weights_refusal, tolerance_refusal}
use Rattle.deck.specs.Deck.{Deck, Query, sizes_in, swatches_in, lightness_rises, deck_refusal, search_refusal}
use Rattle.deck.specs.Inner.{Sizes}
use Rattle.deck.specs.InnerQuery.{query_refusal}
use Rattle.deck.specs.declared.columns.Columns.{Columns}
use Rattle.deck.specs.Answers.{Found, Count, Refused, Short, found_of, contents_of, room_refusal, number_of, count_of, needed_of, Refuses}

-- ---- truth values

pub both : (a b : Bool) → (a && b) ≡ true → (a ≡ true) × (b ≡ true)
both true b e = (refl, e)
both false b e = absurd (true≢false (sym e))

-- ---- columns whose sizes are in order

pub sizes-are : (l a b : List ℤ) → sizes_in l a b ≡ true → Sizes l a b
unfolding sizes_in
sizes-are l a b e =
    let x = both _ _ e in
    let y = both _ _ x.1 in
    record { a_is = eqb-true _ _ x.0; b_is = eqb-true _ _ y.0; most = leb-true _ _ y.1 }

pub sizes-in : (l a b : List ℤ) → Sizes l a b → sizes_in l a b ≡ true
unfolding sizes_in
sizes-in l a b s = ap₂ ◌&&◌ (eq-eqb _ _ s.a_is) (ap₂ ◌&&◌ (eq-eqb _ _ s.b_is) (le-leb _ _ s.most))

-- ---- the refusal of a deck

-- of what the tests found
pub refusal_is : (d : Deck) (s t u : Bool) → d.sized ≡ s → swatches_in d ≡ t → lightness_rises d ≡ u
    → cond (not s) 6 (cond (not t || not u) 7 0) ≡ deck_refusal d
unfolding deck_refusal
refusal_is d s t u e f g = cc

-- ---- a deck that is not refused

pub record Valid (d : Deck) : Type 0 where
  pub sized : d.sized ≡ true
  pub colours : (k : ℕ) → k < d.count → colour_refusal (d.colour k) ≡ 0
  pub rises : rising (λ k. (d.colour k).l) d.count ≡ true

-- the tests of a refusal that is 0
passed : (s t u : Bool) → cond {A = ℕ} (not s) 6 (cond (not t || not u) 7 0) ≡ 0 → (s ≡ true) × (t ≡ true) × (u ≡ true)
passed false t u e = absurd (omega arith)
passed true false u e = absurd (omega arith)
passed true true false e = absurd (omega arith)
passed true true true e = (refl, refl, refl)

pub deck-valid : (d : Deck) → deck_refusal d ≡ 0 → Valid d
unfolding deck_refusal swatches_in lightness_rises
deck-valid d e =
    let h = passed d.sized (swatches_in d) (lightness_rises d) e in
    let test : ℕ → Bool = λ k. eqb (colour_refusal (d.colour k)) 0 in
    record { sized = h.0; colours = λ k l. eqb-true _ 0 (every-at test d.count k h.1 l); rises = h.2 }

-- the columns of a deck that is not refused are of one length, of at most 4,096
pub columns-sizes : (d : Columns) → Sizes d.slices.l.now d.slices.a.now d.slices.b.now
columns-sizes d = sizes-are _ _ _ (deck-valid _ d.valid).sized

-- ---- a search that is not refused

pub record Accepts (q : Query) (d : Deck) : Type 0 where
  pub reading_in : reading_refusal q.reading ≡ 0
  pub weights_in : weights_refusal q.weights ≡ 0
  pub tolerance-in : tolerance_refusal q.tolerance ≡ 0
  pub deck_in : deck_refusal d ≡ 0

pub search-accepts : (q : Query) (d : Deck) → search_refusal q d ≡ 0 → Accepts q d
unfolding search_refusal
search-accepts q d e =
    let r = none_of _ _ e in
    let w = none_of _ _ r.1 in
    let t = none_of _ _ w.1 in
    record { reading_in = r.0; weights_in = w.0; tolerance-in = t.0; deck_in = sym (first-last _) ∙ t.1 }

-- ---- the refusal of a query, by its tests in their order

module _ (q : Query) (e : Refusal) where
  pub by-reading : refusal_number e ≡ reading_refusal q.reading → refusal_number e ≡ query_refusal q
  unfolding query_refusal first_refusal
  by-reading h = sym (first-refused e _ h)

  pub by-weights : 0 ≡ reading_refusal q.reading → refusal_number e ≡ weights_refusal q.weights → refusal_number e ≡ query_refusal q
  unfolding query_refusal first_refusal
  by-weights r h =
      sym (ap (λ (n : ℕ). first_of n (first_refusal (weights_refusal q.weights ∷ tolerance_refusal q.tolerance ∷ []))) (sym r) ∙ first-refused e _ h)

  pub by-tolerance : 0 ≡ reading_refusal q.reading → 0 ≡ weights_refusal q.weights
      → refusal_number e ≡ tolerance_refusal q.tolerance → refusal_number e ≡ query_refusal q
  unfolding query_refusal first_refusal
  by-tolerance r w h =
      sym (ap (λ (n : ℕ). first_of n (first_refusal (weights_refusal q.weights ∷ tolerance_refusal q.tolerance ∷ []))) (sym r)
      ∙ ap (λ (n : ℕ). first_of n (first_refusal (tolerance_refusal q.tolerance ∷ []))) (sym w) ∙ first-refused e _ h)

pub query-accepted : (q : Query) → 0 ≡ reading_refusal q.reading → 0 ≡ weights_refusal q.weights
    → 0 ≡ tolerance_refusal q.tolerance → 0 ≡ query_refusal q
unfolding query_refusal first_refusal
query-accepted q r w t =
    sym (ap (λ (n : ℕ). first_of n (first_refusal (weights_refusal q.weights ∷ tolerance_refusal q.tolerance ∷ []))) (sym r)
    ∙ ap (λ (n : ℕ). first_of n (first_refusal (tolerance_refusal q.tolerance ∷ []))) (sym w) ∙ ap (λ (n : ℕ). first_of n 0) (sym t))

-- the deck's refusal comes after the query's
pub query-then-deck : (q : Query) (d : Deck) → first_of (query_refusal q) (deck_refusal d) ≡ search_refusal q d
unfolding query_refusal search_refusal
query-then-deck q d = first_then _ (deck_refusal d)

pub first-of-query : (q : Query) (d : Deck) → (query_refusal q ≡ 0 → ⊥) → search_refusal q d ≡ query_refusal q
first-of-query q d h = sym (query-then-deck q d) ∙ sym (first-applies _ (deck_refusal d) h)

pub first-of-deck : (q : Query) (d : Deck) → query_refusal q ≡ 0 → search_refusal q d ≡ deck_refusal d
first-of-deck q d e = sym (query-then-deck q d) ∙ ap (λ (n : ℕ). first_of n (deck_refusal d)) e

-- ---- the answer, and what the list holds

-- r and new are those of a refusal k, of the matches, and of the list before
abbrev pub Answers : ℕ → List ℕ → List ℕ → Found → List ℕ → Type 0
Answers k matches old r new = (r ≡ found_of k matches (length old)) × (new ≡ contents_of k matches old)

module _ (matches old : List ℕ) where
  pub answers-refused : (r k : ℕ) → r ≡ k → (r ≡ 0 → ⊥) → Answers k matches old (Refused r) old
  unfolding found_of contents_of
  answers-refused zero k e h = absurd (h refl)
  answers-refused (suc n) k e h = (ap (λ j. found_of j matches (length old)) e, ap (λ j. contents_of j matches old) e)

  module _ (k : ℕ) (h : k ≡ 0 → ⊥) where
    pub answer-of-refusal : found_of k matches (length old) ≡ Refused k
    answer-of-refusal = sym (answers-refused k k refl h).0

    pub contents-of-refusal : contents_of k matches old ≡ old
    contents-of-refusal = sym (answers-refused k k refl h).1

  module _ (n : ℕ) (e : length matches ≡ n) where
    pub answers-fit : n ≤ length old → Answers 0 matches old (Count n) (matches ++ drop n old)
    unfolding found_of contents_of
    answers-fit h =
        let t : leb (length matches) (length old) ≡ true = le-leb (length matches) (length old) (omega arith) in
        (sym (ap₂ (λ k t. cond t (Count k) (Short k)) e t), sym (ap₂ (λ k t. cond t (matches ++ drop k old) old) e t))

    pub answers-short : length old < n → Answers 0 matches old (Short n) old
    unfolding found_of contents_of
    answers-short h =
        let t : leb (length matches) (length old) ≡ false = lt-leb (length matches) (length old) (omega arith) in
        (sym (ap₂ (λ k t. cond t (Count k) (Short k)) e t), sym (ap₂ (λ k t. cond t (matches ++ drop k old) old) e t))

  -- the number of the refusal: of 1 to 7 first, then 8
  pub answer-number : (r : Found) (k needed : ℕ) → r ≡ found_of k matches (length old) → length matches ≡ needed
      → number_of r ≡ first_of k (room_refusal needed (length old))
  unfolding found_of room_refusal
  answer-number r zero needed e h =
      ap number_of e ∙ by-room (leb (length matches) (length old)) ∙ ap (λ n. cond (leb n (length old)) 0 8) h
    where
      by-room : (t : Bool) → number_of (cond t (Count (length matches)) (Short (length matches))) ≡ cond t 0 8
      by-room true = refl
      by-room false = refl
  answer-number r (suc n) needed e h = ap number_of e

  pub answer-refused : (r : Found) (new : List ℕ) (k : ℕ) → Answers k matches old r new → 0 < k → Refuses k 0 r old new
  unfolding found_of contents_of
  answer-refused r new zero a h = absurd (omega arith)
  answer-refused r new (suc n) a h =
      let e = a.0 in
      record { number_is = ap number_of e; needed_is = ap needed_of e; count_is = ap count_of e; kept = a.1 }

-- what a call answers that is refused, by the query or by the deck alone
pub ruleset refused_steps = (first-of-query, first-of-deck, answer-of-refusal, contents-of-refusal, not-zero)

pub short-refuses : (n : ℕ) (r : Found) (old new : List ℕ) → r ≡ Short n → new ≡ old → Refuses 8 n r old new
short-refuses n r old new e f =
    record { number_is = ap number_of e; needed_is = ap needed_of e; count_is = ap count_of e; kept = f }
