-- Pairs answered one after the other, with weights that are rounded once. Assumes nothing.
use mathlib.Core.Path.{◌≡◌, refl, sym, ap, ap₂, ◌∙◌}
use mathlib.Core.List.{List}
use Prim.Native.Nat.{ℕ, ◌+◌, ◌*◌, ◌/◌, ◌≤◌, ◌<◌, min}
use native.Mathlib.Nat.{min-le_left, min-le_right}
use native.Mathlib.Omega.{arith}
use lib.Ieee.{Float}
use lib.ListN.{length, set}
use Rattle.std.specs.Prelude.{Result, Ok, Err, IfOk}
use Rattle.places.specs.Places.{column_of}
use Rattle.places.proofs.Columns.{column-more}
use Rattle.refusal.specs.Refusals.{number_of, first_of, refused_with}
use Rattle.refusal.specs.declared.Refusal.{Refusal}
use Rattle.refusal.proofs.RefusalLaws.{first-none, first-zero, given-same, not-zero, gives-value, gives-refusal}
use Rattle.sample.specs.declared.FixedWeights.{FixedWeights}
use Rattle.fixed_point.specs.Refusals.{weights_refusal}
use Rattle.fixed_point.specs.Samples.{sample_of, weights_of}
use Rattle.fixed_point.specs.declared.Reading.{Reading}
use Rattle.fixed_point.specs.declared.Weights.{Weights}
use Rattle.difference.specs.Ciede2000.{ciede2000_of}
use Rattle.difference.specs.Inner.{prepared_sample, Millionths}
use Rattle.difference.specs.declared.prepared.Prepared.{Prepared}
use Rattle.measure.specs.Answers.{double_of, answer_of, refusal_of, difference_of}
use Rattle.measure.specs.Calls.{pair_refusal, weighted_refusal, ciede2000_answer}
use Rattle.measure.specs.Many.{reading_at, pair_count, pair_answer, Answered, Results}
use Rattle.measure.specs.Inner.{IsAccepted, accepted_answer, rounded_answer, rounded_pair}
use Rattle.measure.specs.declared.Accepted.{Accepted}
use Rattle.measure.proofs.Refusing.{weighted-is}

-- ---- a pair

-- r is what the weights are rounded to, or their refusal
pub weighted-by : (s t : Reading) (w : Weights) (r : Result FixedWeights Refusal) → refused_with r ≡ weights_refusal w
    → first_of (pair_refusal s t) (refused_with r) ≡ weighted_refusal s t w
weighted-by s t w r e = ap (λ (n : ℕ). first_of (pair_refusal s t) n) e ∙ weighted-is s t w

-- CIEDE2000 of an accepted pair of readings and weights
pub ciede2000-worked : (s t : Reading) (w : Weights) {x : Accepted} {n : ℕ} → IsAccepted s t (weights_of w) x
    → Millionths (ciede2000_of x.w (prepared_sample x.s) (prepared_sample x.t)) n
    → n ≡ ciede2000_of (weights_of w) (sample_of s) (sample_of t)
ciede2000-worked s t w a m = m.is ∙ (λ i. ciede2000_of (a.weights i) (a.first i) (a.second i))

-- of an accepted pair and rounded weights
pub rounded-worked : (s t : Reading) {r : Result FixedWeights Refusal} {w : FixedWeights} (p q : Prepared) {d : Float} {n : ℕ}
    → 0 ≡ first_of (pair_refusal s t) (refused_with r) → r ≡ Ok w → prepared_sample p ≡ sample_of s → prepared_sample q ≡ sample_of t
    → Millionths (ciede2000_of w (prepared_sample p) (prepared_sample q)) n → d ≡ double_of n → Ok d ≡ rounded_answer r s t
rounded-worked s t {w = w} p q none f g h m e =
    let is = e ∙ ap double_of (m.is ∙ (λ i. ciede2000_of w (g i) (h i))) in
    rw f (gives-value (first-none _ _ (sym none)).0 is)

-- a pair that is refused, or whose weights are
pub rounded-refused : (s t : Reading) (r : Result FixedWeights Refusal) (e : Refusal)
    → number_of e ≡ first_of (pair_refusal s t) (refused_with r) → Err (number_of e) ≡ rounded_answer r s t
rounded-refused s t (Ok w) e h = gives-refusal e _ (h ∙ first-zero _)
rounded-refused s t (Err x) e h = gives-refusal e _ h

-- an accepted pair, or the refusal of one
pub accepted-rounded : (s t : Reading) (w : Result FixedWeights Refusal) (r : Result Accepted Refusal)
    → refused_with r ≡ first_of (pair_refusal s t) (refused_with w) → IfOk r (λ a. (w ≡ Ok a.w) × IsAccepted s t a.w a)
    → accepted_answer r ≡ rounded_answer w s t
accepted-rounded s t w (Ok a) e h =
    rw h.0 (gives-value (first-none _ _ (sym e)).0 (λ i. double_of (ciede2000_of a.w (h.1.first i) (h.1.second i))))
accepted-rounded s t w (Err x) e h = rounded-refused s t w x e

-- rounded weights answer as the weights themselves
rounded-is : (s t : Reading) (w : Weights) (r : Result FixedWeights Refusal) → refused_with r ≡ weights_refusal w
    → IfOk r (λ v. v ≡ weights_of w) → rounded_answer r s t ≡ ciede2000_answer s t w
rounded-is s t w (Ok v) e rounded =
    ap₂ (λ (n m : ℕ). answer_of n m) (sym (first-zero _) ∙ weighted-by s t w (Ok v) e) (λ i. ciede2000_of (rounded i) (sample_of s) (sample_of t))
rounded-is s t w (Err x) e rounded =
    given-same _ (λ z. absurd (not-zero x (first-none (pair_refusal s t) (number_of x) z).1))
    ∙ ap (λ (n : ℕ). answer_of n (ciede2000_of (weights_of w) (sample_of s) (sample_of t))) (weighted-by s t w (Err x) e)

-- ---- the lists

-- nothing is answered yet
pub answered-none : (answer : ℕ → Result Float ℕ) (old : Results) → Answered answer 0 old old
unfolding column_of
answered-none answer old = record { differences = refl; refusals = refl }

-- a pair more is answered
pub answered-more : (w : Result FixedWeights Refusal) (standards samples : List Float) (n : ℕ) (old new : Results)
    {after : Results} {s t : Reading} {r : Result Float ℕ} → let answer = rounded_pair w standards samples in Answered answer n old new
    → n < length old.differences → n < length old.refusals
    → s ≡ reading_at standards n → t ≡ reading_at samples n → r ≡ rounded_answer w s t
    → after.differences ≡ set new.differences n (difference_of r) → after.refusals ≡ set new.refusals n (refusal_of r)
    → Answered answer (n + 1) old after
unfolding rounded_pair
answered-more w standards samples n old new a l m e f g d k =
    let answer = rounded_pair w standards samples in
    let pair = g ∙ ap₂ (λ s t. rounded_answer w s t) e f in
    record {
      differences = d ∙ column-more (λ j. difference_of (answer j)) _ _ n a.differences l (ap difference_of pair);
      refusals = k ∙ column-more (λ j. refusal_of (answer j)) _ _ n a.refusals m (ap refusal_of pair);
    }

-- pairs that are answered by rounded weights are answered
pub answered-rounded : (standards samples : List Float) (w : Weights) (r : Result FixedWeights Refusal) (n : ℕ) (old new : Results)
    → refused_with r ≡ weights_refusal w → IfOk r (λ v. v ≡ weights_of w) → Answered (rounded_pair r standards samples) n old new
    → Answered (pair_answer standards samples w) n old new
unfolding rounded_pair pair_answer
answered-rounded standards samples w r n old new e f a =
    let same : rounded_pair r standards samples ≡ pair_answer standards samples w = λ i j. rounded-is (reading_at standards j) (reading_at samples j) w r e f i in
    rw same at a

-- ---- the number of pairs

-- each list holds so many
pub record Held (a b c d n : ℕ) : Type 0 where
  pub standards : 3 * n ≤ a
  pub samples : 3 * n ≤ b
  pub differences : n ≤ c
  pub refusals : n ≤ d

pub pairs-held : (standards samples differences refusals : ℕ) {n : ℕ} → n ≡ pair_count standards samples differences refusals
    → Held standards samples differences refusals n
unfolding pair_count
pairs-held standards samples differences refusals e =
    let colours = min (standards / 3) (samples / 3) in
    let room = min differences refusals in
    let few = min-le_left colours room in
    let many = min-le_right colours room in
    record {
      standards = omega (arith, few, min-le_left (standards / 3) (samples / 3));
      samples = omega (arith, few, min-le_right (standards / 3) (samples / 3));
      differences = omega (arith, many, min-le_left differences refusals);
      refusals = omega (arith, many, min-le_right differences refusals);
    }
