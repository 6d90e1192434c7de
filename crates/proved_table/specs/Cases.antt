-- 01's proved table: for each row what the definitions give, and what it says. A flag is 1 or 0. The weights are 1
-- unless said.
use Rattle.std.specs.Prelude.{Bool, false, cond, List, [], ◌∷◌, map, ℕ, ℤ, pos, negsuc, neg_ℤ, Float}
use Rattle.std.specs.Int.Signed.{lt_z}
use Rattle.std.specs.Float.{fin, binary32}
use Rattle.std.specs.Float.Ieee.{of_bits}
use Rattle.isqrt.specs.Root.{root_of}
use Rattle.sample.specs.Sample.{Sample}
use Rattle.sample.specs.declared.FixedWeights.{FixedWeights}
use Rattle.fixed_point.specs.Rounding.{fixed_of}
use Rattle.fixed_point.specs.declared.Reading.{Reading}
use Rattle.fixed_point.specs.declared.Weights.{Weights}
use Rattle.chroma.specs.Chroma.{ratio_of}
use Rattle.hue_difference.specs.HueDifference.{opposite_of}
use Rattle.difference.specs.Pair.{pair_ratio, primed_of, point_hue, pair_far, pair_hue_difference}
use Rattle.difference.specs.Cie76.{cie76_of}
use Rattle.difference.specs.Ciede2000.{figures_of, ciede2000_of}
use Rattle.deck.specs.Deck.{Deck, Query, asked, columns}
use Rattle.deck.specs.Answers.{number_of, count_of, needed_of}
use Rattle.deck.specs.Search.{search_matches, search_answer, search_contents}

-- ---- how a row is put

abbrev flag : Bool → ℤ
flag t = cond t (pos 1) (pos 0)

-- a sample in 1/10,000
abbrev sample : ℕ → ℤ → ℤ → Sample
sample l a b = record { l = l; a = a; b = b }

abbrev grey : ℕ → Sample
grey l = sample l (pos 0) (pos 0)

abbrev weights_one : FixedWeights
weights_one = record { l = 10000; c = 10000; h = 10000 }

abbrev lightness_two : FixedWeights
lightness_two = record { l = 20000; c = 10000; h = 10000 }

-- sample 1 of 001's pair 1
abbrev pair_one : Sample
pair_one = sample 500000 (pos 26772) (neg_ℤ (pos 797751))

-- the hue of a colour with these a and b
abbrev hue_at : ℤ → ℤ → ℤ
hue_at a b = pos (point_hue (primed_of (pair_ratio (sample 0 a b) (sample 0 a b)) (sample 0 a b)))

-- (2.49, -0.0010) with (-2.49, b): far, exactly opposite, and H below 0
abbrev nearly_opposite : ℕ → List ℤ
nearly_opposite b =
    let s = sample 500000 (pos 24900) (neg_ℤ (pos 10)) in
    let t = sample 500000 (neg_ℤ (pos 24900)) (pos b) in
    flag (pair_far s t) ∷ flag (opposite_of s.a s.b t.a t.b) ∷
    flag (lt_z (pair_hue_difference s t (primed_of (pair_ratio s t) s) (primed_of (pair_ratio s t) t)) (pos 0)) ∷ []

-- greys L 50 and 40: SL, CIEDE2000, and l below 0
abbrev greys : FixedWeights → List ℤ
greys w =
    let f = figures_of w (grey 500000) (grey 400000) in
    pos f.terms.sl ∷ pos f.difference ∷ flag (lt_z f.parts.l (pos 0)) ∷ []

-- the grey deck 40, 45, 50, 50, 60, the reading grey 50 and the tolerance 5, as floats
abbrev whole : ℕ → Float
whole n = fin false n (pos 0)

abbrev reading : Reading
reading = record { l = whole 50; a = whole 0; b = whole 0 }

abbrev weights : Weights
weights = record { l = whole 1; c = whole 1; h = whole 1 }

abbrev query : Query
query = asked reading weights (whole 5)

abbrev zeros : List ℤ
zeros = pos 0 ∷ pos 0 ∷ pos 0 ∷ pos 0 ∷ pos 0 ∷ []

abbrev grey_deck : Deck
grey_deck = columns (pos 400000 ∷ pos 450000 ∷ pos 500000 ∷ pos 500000 ∷ pos 600000 ∷ []) zeros zeros

-- the answer for a list of this room: the refusal, the count and the number needed
abbrev answer : ℕ → List ℤ
answer room =
    let r = search_answer query grey_deck room in
    pos (number_of r) ∷ pos (count_of r) ∷ pos (needed_of r) ∷ []

-- what a list holds after the search
abbrev contents : List ℕ → List ℤ
contents old = map pos (search_contents query grey_deck old)

-- ---- the table

-- what the definitions give, and what the table says
abbrev pub Case : Type 0
Case = record { gives : List ℤ; says : List ℤ }

unfoldable pub table : List Case
table =
    -- float 0.03125, which is 312.5 in 1/10,000
    record { gives = fixed_of (of_bits binary32 0x3d00_0000) ∷ []; says = pos 312 ∷ [] } ∷
    -- root of 0; of 3; of 2 × 10^18
    record {
      gives = pos (root_of 0) ∷ pos (root_of 3) ∷ pos (root_of 2000000000000000000) ∷ [];
      says = pos 0 ∷ pos 1 ∷ pos 1414213562 ∷ [];
    } ∷
    -- Z of a sum of 500,000,000
    record { gives = pos (ratio_of 500000000) ∷ []; says = pos 707106781 ∷ [] } ∷
    -- hues of (1, 0), (0, 1), (-1, 0), (0, -1)
    record {
      gives =
          hue_at (pos 10000) (pos 0) ∷ hue_at (pos 0) (pos 10000) ∷ hue_at (negsuc 9999) (pos 0) ∷
          hue_at (pos 0) (negsuc 9999) ∷ [];
      says = pos 0 ∷ pos 90000000 ∷ pos 180000000 ∷ pos 270000000 ∷ [];
    } ∷
    -- 0.0009: not far; X, and so H, is below 0
    record { gives = nearly_opposite 9; says = pos 0 ∷ pos 0 ∷ pos 1 ∷ [] } ∷
    -- 0.0010: not far, exactly opposite, H minus
    record { gives = nearly_opposite 10; says = pos 0 ∷ pos 1 ∷ pos 1 ∷ [] } ∷
    -- 0.0011: far; X, and so H, is above 0
    record { gives = nearly_opposite 11; says = pos 1 ∷ pos 0 ∷ pos 0 ∷ [] } ∷
    -- CIE76 of 001's pair 1
    record { gives = pos (cie76_of pair_one (sample 500000 (pos 0) (neg_ℤ (pos 827485)))) ∷ []; says = pos 4001063 ∷ [] } ∷
    -- greys L 50, 40: SL, CIEDE2000, l negative; the same with kL = 2
    record { gives = greys weights_one; says = pos 1055901699 ∷ pos 9470578 ∷ pos 1 ∷ [] } ∷
    record { gives = greys lightness_two; says = pos 1055901699 ∷ pos 4735289 ∷ pos 1 ∷ [] } ∷
    -- greys L 0, 100
    record { gives = pos (ciede2000_of weights_one (grey 0) (grey 1000000)) ∷ []; says = pos 100000000 ∷ [] } ∷
    -- the grey deck: places 1, 2, 3; with room 2, refusal 8, need 3
    record { gives = map pos (search_matches query grey_deck); says = pos 1 ∷ pos 2 ∷ pos 3 ∷ [] } ∷
    record { gives = answer 3; says = pos 0 ∷ pos 3 ∷ pos 0 ∷ [] } ∷
    record { gives = answer 2; says = pos 8 ∷ pos 0 ∷ pos 3 ∷ [] } ∷
    -- what a list of four entries holds afterwards, and one of two
    record { gives = contents (9 ∷ 9 ∷ 9 ∷ 7 ∷ []); says = pos 1 ∷ pos 2 ∷ pos 3 ∷ pos 7 ∷ [] } ∷
    record { gives = contents (9 ∷ 7 ∷ []); says = pos 9 ∷ pos 7 ∷ [] } ∷
    []
