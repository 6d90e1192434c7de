-- What the hue functions say of a pair of prepared samples and their points. Assumes nothing.
use mathlib.Core.Path.{◌≡◌, refl, sym, ap, ◌∙◌, subst}
use mathlib.Core.Bool.{Bool, true, false, ◌||◌}
use Prim.Native.Nat.{ℕ, ◌+◌, ◌≤◌}
use native.Mathlib.Nat.{le_trans}
use lib.Dec.{lit≤}
use lib.IntN.{pos, ◌-ℤ◌}
use Rattle.signed.specs.Inner.{int}
use Rattle.signed.specs.declared.Int.{Int}
use Rattle.hue_difference.specs.HueDifference.{no_hue_of, hue_size, hue_difference_of, mean_hue_of}
use Rattle.hue_difference.specs.Inner.{SideIs, sign_of, with_order}
use Rattle.hue_difference.specs.declared.Side.{Side}
use Rattle.sample.specs.Sample.{Sample}
use Rattle.sample.specs.declared.FixedWeights.{FixedWeights}
use Rattle.chroma.specs.Chroma.{ratio_of}
use Rattle.chroma.proofs.ChromaLaws.{ratio-le}
use Rattle.weighting.specs.Weighting.{hue_term}
use Rattle.weighting.proofs.WeightingLaws.{lightness_weight-ge, lightness_weight-le, chroma_weight-ge, chroma_weight-le}
use Rattle.weighting.proofs.WeightingLaws.{hue_weight-ge, hue_weight-le, hue_term-le, rotation-le}
use Rattle.difference.proofs.Points.{chroma-is}
use Rattle.std.specs.declared.cmp.Ordering.TheVariants.{Equal}
use Rattle.difference.specs.Parts.{parts_of, combined}
use Rattle.difference.specs.Pair.{Point, pair_ratio, primed_of, pair_far, pair_hue_difference, pair_mean_hue, point_hue, terms_of}
use Rattle.difference.specs.Pair.{lightness_difference, chroma_difference}
use Rattle.difference.specs.Ciede2000.{figures_from, terms00_of, parts00_of, figures_of, ciede2000_of}
use Rattle.difference.specs.Inner.{prepared_sample, point_of, signed_parts, intermediate_figures, Coloured, HueFigures}
use Rattle.difference.specs.Inner.{IsPoints, IsParts, IsFinished, IsFigures, Millionths}
use Rattle.difference.specs.declared.ciede2000.Terms.{Terms}
use Rattle.difference.specs.declared.ciede2000.Hues.{Hues}
use Rattle.difference.specs.declared.ciede2000.Points.{Points}
use Rattle.difference.specs.declared.ciede2000.Finished.{Finished}
use Rattle.difference.specs.declared.parts.SignedParts.{SignedParts}
use Rattle.difference.specs.declared.prepared.Prepared.{Prepared}
use Rattle.chroma.specs.declared.Coordinates.{Coordinates}

-- the step 6 and 7 flags of a pair
abbrev pub Sides : Prepared → Prepared → Side → Type 0
Sides s t d = SideIs (int s.ab.a) (int s.ab.b) (int t.ab.a) (int t.ab.b) d

or-none : (p q r : Bool) → (p || q || r) ≡ false → (p ≡ false) × (q ≡ false)
or-none true q r e = (e, absurd-eq q e)
  where
    absurd-eq : (q : Bool) → true ≡ false → q ≡ false
    absurd-eq true e = e
    absurd-eq false e = refl
or-none false true r e = (refl, e)
or-none false false r e = (refl, refl)

hued : (none negative : Bool) → (sign_of none negative ≡ Equal → ⊥) → none ≡ false
hued true negative h = absurd (h refl)
hued false negative h = refl

-- where there is a hue part, neither sample is grey
pub both-coloured : (s t : Prepared) (p q : Coordinates) (d : Side) → Sides s t d → Coloured (prepared_sample s) p → Coloured (prepared_sample t) q
    → (d.sign ≡ Equal → ⊥) → (1000 ≤ p.chroma) × (1000 ≤ q.chroma)
unfolding prepared_sample no_hue_of
both-coloured s t p q d side u v h =
    let g = or-none _ _ _ (hued _ _ (λ e. h (side.sign_is ∙ e))) in
    (u.coloured g.0, v.coloured g.1)

with-sign : (none negative : Bool) (n : ℕ) → with_order (sign_of none negative) n ≡ hue_difference_of none negative n
unfolding hue_difference_of
with-sign true negative n = refl
with-sign false true n = refl
with-sign false false n = refl

pub pair_hue_difference-is : (s t : Prepared) (p q : Coordinates) {x y : Point} (d : Side) → Sides s t d → point_of p ≡ x → point_of q ≡ y → (r : Int)
    → int r ≡ with_order d.sign (hue_size (int p.a) (int p.b) p.chroma (int q.a) (int q.b) q.chroma)
    → int r ≡ pair_hue_difference (prepared_sample s) (prepared_sample t) x y
unfolding prepared_sample point_of pair_hue_difference
pair_hue_difference-is s t p q d side u v r e =
    e ∙ (λ i. with_order (side.sign_is i) (hue_size (u i).a (u i).b (u i).c (v i).a (v i).b (v i).c)) ∙ with-sign _ _ _

pub pair-mean-is : (s t : Prepared) (x y : Point) (d : Side) → Sides s t d → (h1 h2 r : ℕ)
    → h1 ≡ point_hue x → h2 ≡ point_hue y → r ≡ mean_hue_of d.grey d.far h1 h2
    → r ≡ pair_mean_hue (prepared_sample s) (prepared_sample t) x y
unfolding prepared_sample pair_mean_hue pair_far
pair-mean-is s t x y d side h1 h2 r p q m = m ∙ (λ i. mean_hue_of (side.grey_is i) (side.far_is i) (p i) (q i))

-- ---- the weighting functions' bounds
pub record TermsIn (e : Terms) : Type 0 where
  pub sl : (1000000000 ≤ e.sl) × (e.sl ≤ 11400000000)
  pub sc : (1000000000 ≤ e.sc) × (e.sc ≤ 11400000000)
  pub sh : (1000000000 ≤ e.sh) × (e.sh ≤ 11400000000)
  pub r : e.r ≤ 2000000000

pub terms-in : {e : Terms} (l1 l2 sum mean : ℕ) → e ≡ terms_of l1 l2 sum mean → l1 ≤ 1000000 → l2 ≤ 1000000 → sum ≤ 4615105632 → TermsIn e
unfolding terms_of
terms-in l1 l2 sum mean p h k s =
    subst TermsIn (sym p)
    (record {
      sl = (lightness_weight-ge l1 l2, le_trans (lightness_weight-le l1 l2 h k) (lit≤ tt));
      sc = (chroma_weight-ge sum, le_trans (chroma_weight-le sum s) (lit≤ tt));
      sh = (hue_weight-ge sum (hue_term mean), le_trans (hue_weight-le sum (hue_term mean) s (hue_term-le mean)) (lit≤ tt));
      r = rotation-le (ratio_of sum) mean (ratio-le sum);
    })

-- ---- the figures from the results of the calls

-- steps 9 to 12
pub finished-are : (w : FixedWeights) (s t : Prepared) (p q : Coordinates) {m : Hues} {e : Terms} (dl dc : Int)
    (parts : SignedParts) {r : ℕ} → HueFigures (prepared_sample s) (prepared_sample t) (point_of p) (point_of q) m
    → e ≡ terms_of s.l t.l (p.chroma + q.chroma) m.mean → int dl ≡ pos t.l -ℤ pos s.l → int dc ≡ pos q.chroma -ℤ pos p.chroma
    → IsParts (parts_of w (int dl) (int dc) (int m.difference) e.sl e.sc e.sh) parts → Millionths (combined (signed_parts parts) e.r) r
    → IsFinished (figures_from w (prepared_sample s) (prepared_sample t) (point_of p) (point_of q)) (record { terms = e; parts = parts; difference = r })
unfolding figures_from terms00_of parts00_of lightness_difference chroma_difference prepared_sample point_of
finished-are w s t p q dl dc parts h e-is dl-is dc-is parts_is r-is =
    let terms : _ ≡ terms_of s.l t.l (p.chroma + q.chroma)
    (pair_mean_hue (prepared_sample s) (prepared_sample t) (point_of p) (point_of q)) = e-is ∙ ap
    (λ (n : ℕ). terms_of s.l t.l (p.chroma + q.chroma) n) h.mean in
    let parts_are = parts_is.is ∙ (λ i. parts_of w (dl-is i) (dc-is i) (h.difference i) (terms i).sl (terms i).sc (terms i).sh) in
    record {
      terms = terms;
      parts = parts_are;
      difference = r-is.is ∙ (λ j. combined (parts_are j) (terms j).r);
      parts_in = parts_is.small;
      small = r-is.small;
    }

-- so of the points that step 3 gives
pub finished-of : (w : FixedWeights) (s t : Sample) (x : Points) (r : Finished) → IsPoints s t x
    → IsFinished (figures_from w s t (point_of x.p) (point_of x.q)) r → IsFinished (figures_of w s t) r
unfolding figures_of
finished-of w s t x r h f =
    subst (λ (q : Point). IsFinished (figures_from w s t (primed_of (pair_ratio s t) s) q) r) h.q.is
    (subst (λ (p : Point). IsFinished (figures_from w s t p (point_of x.q)) r) h.p.is f)

-- every figure
pub figures-are : (w : FixedWeights) (s t : Prepared) (x : Points) (m : Hues) (r : Finished)
    → IsPoints (prepared_sample s) (prepared_sample t) x → HueFigures (prepared_sample s) (prepared_sample t) (point_of x.p) (point_of x.q) m
    → IsFinished (figures_of w (prepared_sample s) (prepared_sample t)) r
    → IsFigures (figures_of w (prepared_sample s) (prepared_sample t))
    (record {
      c1 = s.chroma;
      p1 = x.p;
      c2 = t.chroma;
      p2 = x.q;
      z = x.z;
      hues = m;
      terms = r.terms;
      parts = r.parts;
      difference = r.difference;
    })
unfolding intermediate_figures figures_of figures_from
figures-are w s t x m r x-is h f =
    let one = prepared_sample s in
    let two = prepared_sample t in
    let p = x-is.p.is in
    let q = x-is.q.is in
    record {
      is = λ i. record {
        c1 = chroma-is s i;
        p1 = p i;
        h1 = (h.h1 ∙ ap point_hue p) i;
        c2 = chroma-is t i;
        p2 = q i;
        h2 = (h.h2 ∙ ap point_hue q) i;
        z = x-is.z i;
        far = h.far i;
        hue_difference = (h.difference ∙ (λ j. pair_hue_difference one two (p j) (q j))) i;
        mean = (h.mean ∙ (λ j. pair_mean_hue one two (p j) (q j))) i;
        terms = f.terms i;
        parts = f.parts i;
        difference = f.difference i;
      };
      p1 = x-is.p.coloured.bounded;
      p2 = x-is.q.coloured.bounded;
      hues = h.difference_size;
      parts = f.parts_in;
      difference = f.small;
    }

-- the difference alone, in millionths
pub millionths-are : (w : FixedWeights) (s t : Sample) (r : Finished) → IsFinished (figures_of w s t) r
    → Millionths (ciede2000_of w s t) r.difference
unfolding ciede2000_of
millionths-are w s t r f = record { is = f.difference; small = f.small }
