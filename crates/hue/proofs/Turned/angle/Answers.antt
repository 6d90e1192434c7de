-- `hue::Turned::angle` meets its contract: the tenth that is found is one that the point reaches.
-- Assumes nothing.
use mathlib.Core.Path.{◌≡◌, sym, subst}
use Prim.Native.Nat.{ℕ, ◌+◌, ◌*◌}
use native.Mathlib.Omega.{arith}
use Rattle.hue.specs.Hue.{reaches, tenth_of, rest_of, angle_of}
use Rattle.hue.proofs.HueLaws.{Largest, tenth-is, rest_le}
use Rattle.hue.proofs.Numbers.{tag-number}
use Rattle.hue.proofs.Turned.angle.Goals as goal

angle-of :
    (x y chroma : ℕ) {k r : ℕ} → k ≡ tenth_of x y → r ≡ rest_of x y k chroma → angle_of x y chroma ≡ 100000 * k + r
unfolding angle_of
angle-of x y chroma e f = cc

found : (x y : ℕ) {k : ℕ} → k ≡ tenth_of x y → Largest (reaches x y) 899 k
found x y e = subst (Largest (reaches x y) 899) (sym e) (tenth-is x y)

pub overflow_mul-result-2 : goal.overflow_mul-result-2
overflow_mul-result-2 c = omega (arith, found _ _ c.tenth_of-k.ensures, tag-number c.args.q)

pub overflow_add-result : goal.overflow_add-result
overflow_add-result c = omega (arith, found _ _ c.tenth_of-k.ensures, tag-number c.args.q)

pub rest-requires : goal.rest-requires
rest-requires c = (omega (arith, found _ _ c.tenth_of-k.ensures), (found _ _ c.tenth_of-k.ensures).holds)

pub overflow_add-result-2 : goal.overflow_add-result-2
overflow_add-result-2 c =
    omega (arith, tag-number c.args.q, found _ _ c.tenth_of-k.ensures, rest_le c.args.self.x c.args.self.y c.tenth_of-k.result c.args.self.chroma)

pub returns : goal.returns
returns c =
    omega (arith, tag-number c.args.q, angle-of c.args.self.x c.args.self.y c.args.self.chroma c.tenth_of-k.ensures c.rest.ensures)
