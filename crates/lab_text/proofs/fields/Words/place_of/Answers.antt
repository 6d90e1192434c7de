-- `lab_text::fields::Words::place_of` meets its contract. Assumes nothing.
use mathlib.Core.Path.{◌≡◌, refl, sym, ◌∙◌}
use native.Mathlib.Omega.{arith}
use mathlib.Core.List.{List}
use Prim.Native.Nat.{ℕ, ◌<◌}
use lib.ListN.{length, length-map}
use Rattle.std.specs.Borrow.{Bor}
use Rattle.lab_text.specs.Inner.{texts}
use Rattle.lab_text.proofs.FieldLaws.{word-at, place_here, place-on, place_none}
use Rattle.lab_text.proofs.fields.Words.place_of.Goals as goal

few : (ws : List (Bor (List ℕ))) {k : ℕ} → length ws ≡ 4 → k < 4 → k < length (texts ws)
few ws e h = omega (arith, length-map ws (λ w. w.now))

pub returns-then-equal : goal.returns-then-equal
returns-then-equal c =
    let ws = texts c.args.self.now.all in
    (sym (place_here c.args.name.now ws c.loop-k.k (few c.args.self.now.all c.requires c.loop-k-test.true) (word-at c.args.self.now.all refl c.loop-k.k) c.equal.ensures c.if-equal.true) ∙ c.loop-k.invariant, omega arith)

pub loop-k-preserved : goal.loop-k-preserved
loop-k-preserved c =
    place-on c.args.name.now (texts c.args.self.now.all) c.loop-k.k (few c.args.self.now.all c.requires c.loop-k-test.true) (word-at c.args.self.now.all refl c.loop-k.k) c.equal.ensures c.if-equal.false
    ∙ c.loop-k.invariant

pub returns : goal.returns
returns c =
    let k : c.loop-k.k ≡ 4 = omega arith in
    sym c.loop-k.invariant ∙ place_none _ _ c.loop-k.k (simp length-map (omega (arith, c.requires))) ∙ k
