-- What a search promises, of the equations that its answer and the caller's list satisfy; and that all decks whose size
-- is not in order are searched alike. Assumes nothing.
use mathlib.Core.Path.{◌≡◌, refl, sym, ap, ◌∙◌}
use mathlib.Core.Bool.{true, false}
use mathlib.Core.List.{List, ◌++◌}
use Prim.Native.Nat.{ℕ, zero, suc, ◌+◌, ◌-◌, ◌*◌, ◌≤◌, ◌<◌}
use native.Mathlib.Omega.{arith}
use borrow.Author.Tests.{leb-true, le-leb}
use lib.IntN.{nat_abs}
use lib.ListN.{length, get_or, take, drop, length-append, length-drop}
use lib.Seq.{take_at, get_or-take, get_or-append-add, get_or-drop}
use Rattle.places.specs.Places.{tally, Among}
use Rattle.places.proofs.PlacesLaws.{Listed, matches-listed, hits-length}
use Rattle.sample.specs.Sample.{colour_sample}
use Rattle.sample.specs.Inner.{SampleIn, WeightsIn}
use Rattle.sample.proofs.SampleLaws.{accepted-in}
use Rattle.fixed_point.proofs.FixedLaws.{sample_in, weights_in}
use Rattle.difference.specs.Pair.{lightness_difference}
use Rattle.difference.specs.Verdict.{within_tolerance}
use Rattle.difference.proofs.LightnessBound.{lightness-bound}
use Rattle.deck.specs.Deck.{Deck, Query, FixedQuery, fixed_query, deck_refusal, search_refusal, difference_at, match_at, match_list}
use Rattle.deck.specs.Answers.{Found, Short, found_of, contents_of, count_of, Refuses}
use Rattle.deck.specs.Search.{search_matches, search_tally, Searches}
use Rattle.deck.specs.ListsMatches.{ListsMatches}
use Rattle.deck.proofs.DeckLaws.{Valid, deck-valid, search-accepts, Answers, answers-fit, answers-short}
use Rattle.deck.proofs.DeckLaws.{answer-number, answer-refused, short-refuses}

-- what stands past a list that was put in front of another
past-front : (xs old : List ℕ) (i : ℕ) → length xs ≤ i → get_or (xs ++ drop (length xs) old) i 0 ≡ get_or old i 0
past-front xs old i m =
    let at : i ≡ length xs + (i - length xs) = omega arith in
    ap (λ k. get_or (xs ++ drop (length xs) old) k 0) at
    ∙ get_or-append-add xs (drop (length xs) old) (i - length xs) 0
    ∙ get_or-drop (length xs) old (i - length xs) 0
    ∙ ap (λ k. get_or old k 0) (sym at)

-- the matches are as many as an independent count finds
match-number : (q : FixedQuery) (d : Deck) → length (match_list q d) ≡ tally (match_at q d) d.count
unfolding match_list
match-number q d = hits-length (match_at q d) d.count

lists : (q : FixedQuery) (d : Deck) → Listed (match_at q d) d.count (match_list q d)
unfolding match_list
lists q d = matches-listed (match_at q d) d.count

module _ (q : FixedQuery) (p : WeightsIn q.weights) (r : SampleIn q.reading) (d : Deck) (v : Valid d) where
  -- the verdict's rule as an order of numbers
  within : (k : ℕ) → match_at q d k ≡ true → difference_at q d k ≤ 100 * q.tolerance
  unfolding match_at within_tolerance
  within k e = leb-true _ _ e

  matches : (k : ℕ) → difference_at q d k ≤ 100 * q.tolerance → match_at q d k ≡ true
  unfolding match_at within_tolerance
  matches k h = le-leb _ _ h

  bound_at : (k : ℕ) → k < d.count → difference_at q d k ≤ 100 * q.tolerance
      → 40000 * nat_abs (lightness_difference (colour_sample (d.colour k)) q.reading)
      ≤ 7 * q.weights.l * (q.tolerance + 1)
  unfolding difference_at
  bound_at k l h =
      let s = accepted-in (d.colour k) (v.colours k l) in
      lightness-bound q.weights (colour_sample (d.colour k)) q.reading q.tolerance s r p h

  -- xs lists the places that match, and stands at the front of the list
  module _ (xs old : List ℕ) (h : Listed (match_at q d) d.count xs) (room : length xs ≤ length old) where
    abbrev new : List ℕ
    new = xs ++ drop (length xs) old

    front : take (length xs) new ≡ xs
    front = take_at xs (drop (length xs) old) (length xs) refl

    entry : (i : ℕ) → i < length xs → get_or new i 0 ≡ get_or xs i 0
    entry i l = sym (get_or-take (length xs) new i 0 l) ∙ ap (λ ys. get_or ys i 0) front

    sound-at : (k : ℕ) → Among k (take (length xs) new) → difference_at q d k ≤ 100 * q.tolerance
    sound-at k m = within k (h.sound k (rw front at m))

    inside-at : (k : ℕ) → Among k (take (length xs) new) → k < d.count
    inside-at k m = h.inside k (rw front at m)

    lists-front : ListsMatches q d (length xs) old new
    lists-front = record {
      sound = sound-at;
      complete = λ k l e. rw front (h.complete k l (matches k e));
      inside = inside-at;
      rises = λ i j l m.
          let r : get_or xs i 0 < get_or xs j 0 = h.rises i j l m in omega (arith, entry i (omega arith), entry j m);
      number = ap length (sym front);
      counted = h.count;
      bound = λ k m. bound_at k (inside-at k m) (sound-at k m);
      size = simp (length-append, length-drop) (omega arith);
      kept = past-front xs old;
    }

-- ---- a call

module _ (q : Query) (d : Deck) (old new : List ℕ) (r : Found)
    (answers : Answers (search_refusal q d) (search_matches q d) old r new) where
  abbrev needed : ℕ
  needed = search_tally q d

  number : length (search_matches q d) ≡ needed
  number = match-number (fixed_query q) d

  search-short : search_refusal q d ≡ 0 → length old < needed → (r ≡ Short needed) × Refuses 8 needed r old new
  search-short accepted room =
      let is = rw accepted at answers in
      let put = answers-short _ old _ number room in
      let e : r ≡ Short needed = is.0 ∙ sym put.0 in
      (e, short-refuses _ r old new e (is.1 ∙ sym put.1))

  search-listed : search_refusal q d ≡ 0 → needed ≤ length old → ListsMatches (fixed_query q) d (count_of r) old new
  unfolding fixed_query
  search-listed accepted room =
      let h = search-accepts q d accepted in
      let is = rw accepted at answers in
      let fits : length (search_matches q d) ≤ length old = omega (arith, number) in
      let put = answers-fit (search_matches q d) old _ refl fits in
      let w = weights_in q.weights h.weights_in in
      let s = sample_in q.reading h.reading_in in
      rw (is.1 ∙ sym put.1, is.0 ∙ sym put.0)
      (lists-front (fixed_query q) w s d (deck-valid d h.deck_in) _ old (lists (fixed_query q) d) fits)

  -- the whole promise follows from the answer and the list's contents
  pub searches : Searches q d old new r
  searches = record {
    answer = answers.0;
    contents = answers.1;
    number = answer-number _ old r _ _ answers.0 number;
    refused = answer-refused _ old r new _ answers;
    short = search-short;
    listed = search-listed;
  }

-- ---- decks whose size is not in order

-- the matches play no part in what is refused
refused-alike : (k : ℕ) (xs ys old : List ℕ) (r : Found) (new : List ℕ) → (k ≡ 0 → ⊥) → Answers k xs old r new → Answers k ys old r new
unfolding found_of contents_of
refused-alike zero xs ys old r new h a = absurd (h refl)
refused-alike (suc n) xs ys old r new h a = a

unsized-refusal : (d : Deck) → d.sized ≡ false → deck_refusal d ≡ 6
unfolding deck_refusal
unsized-refusal d e = rw e

-- they are searched alike
pub searches-unsized : (q : Query) (d e : Deck) (old new : List ℕ) (r : Found) → d.sized ≡ false → e.sized ≡ false
    → Searches q d old new r → Searches q e old new r
unfolding search_refusal
searches-unsized q d e old new r d-is e-is s =
    let six = unsized-refusal e e-is in
    let same : search_refusal q d ≡ search_refusal q e = rw (unsized-refusal d d-is, six) in
    let refused : search_refusal q e ≡ 0 → ⊥ = λ z. let h = (search-accepts q e z).deck_in in omega (arith, six) in
    let was : Answers (search_refusal q d) (search_matches q d) old r new = (s.answer, s.contents) in
    searches q e old new r (refused-alike _ (search_matches q d) _ old r new refused (rw same at was))
