-- `near::Neighbourhood::chromas_most` meets its contract, by whether the pair is saturated. Assumes nothing.
use mathlib.Core.Path.{◌≡◌, ap, ap₂, ◌∙◌}
use mathlib.Core.Bool.{Bool, true, false, cond}
use Prim.Native.Nat.{ℕ, ◌+◌}
use native.Mathlib.Nat.{le_trans, le_of_eq, add-le-add}
use Rattle.sample.specs.Sample.{Sample}
use Rattle.sample.specs.Inner.{lab_of}
use Rattle.near.specs.declared.Neighbourhood.{Neighbourhood}
use Rattle.near.specs.Inner.{saturated, half_factor, chroma_most, chromas_most, Most}
use Rattle.near.proofs.Neighbourhood.chromas_most.Goals as goal
use Rattle.near.proofs.Neighbourhood.chromas_most.Goals.{After-pick-2}

-- the bound of the reading's C'
chosen : (b : Bool) (n : Neighbourhood)
    → Most (chroma_most (half_factor b) (lab_of n.reading)) 2560000000 (cond b n.saturated n.most)
unfolding half_factor
chosen true n = n.worked.saturated
chosen false n = n.worked.most

sum_is : (n : Neighbourhood) → (s : Sample) (b : Bool) (f x y : ℕ) → b ≡ saturated s (lab_of n.reading) → f ≡ cond b 574 750
    → Most (chroma_most f s) 2560000000 x → y ≡ cond b n.saturated n.most
    → Most (chromas_most s (lab_of n.reading)) 5120000000 (x + y)
unfolding chromas_most half_factor
sum_is n s b f x y e half first second =
    let t = lab_of n.reading in
    let m = chosen b n in
    record {
      is =
          ap₂ ◌+◌ (first.is ∙ ap (λ (k : ℕ). chroma_most k s) half) (second ∙ m.is)
          ∙ ap (λ c. chroma_most (half_factor c) s + chroma_most (half_factor c) t) e;
      size = add-le-add first.size (le_trans (le_of_eq second) m.size);
    }

both : (c : After-pick-2)
    → Most (chromas_most (lab_of c.args.s) (lab_of c.args.self.reading)) 5120000000
    (c.chroma_most-most.result + c.pick-2.result)
both c =
    sum_is c.args.self (lab_of c.args.s) c.is_saturated-saturated.result _ _ _ c.is_saturated-saturated.ensures
    c.pick.ensures c.chroma_most-most.ensures c.pick-2.ensures

pub returns : goal.returns
returns c = both c
