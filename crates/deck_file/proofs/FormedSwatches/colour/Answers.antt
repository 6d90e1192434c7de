-- The colour at a place of a file. Assumes nothing.
use mathlib.Core.Path.{◌≡◌, ap, ◌∙◌}
use Prim.Native.Nat.{ℕ, ◌+◌, ◌*◌}
use native.Mathlib.Omega.{arith}
use lib.IntN.{ℤ}
use Rattle.places.proofs.Order.{read_back}
use Rattle.buffer.specs.Numbers.{signed_of, field}
use Rattle.deck_file.specs.Layout.{colour_in}
use Rattle.deck_file.specs.Inner.{colour}
use Rattle.deck_file.proofs.Swatches.{ap₃}
use Rattle.deck_file.proofs.FormedSwatches.colour.Goals as goal

pub returns : goal.returns
unfolding colour_in
returns c =
    let second : 7 + 12 * c.args.k + 4 ≡ 11 + 12 * c.args.k = omega arith in
    let third : 7 + 12 * c.args.k + 8 ≡ 15 + 12 * c.args.k = omega arith in
    let at : ℕ → ℤ = λ n. signed_of (field n 4 c.args.self.now.bytes.now) in
    let el = read_back c.i32_at.type_inv c.i32_at.ensures in
    let ea = read_back c.i32_at-2.type_inv (c.i32_at-2.ensures ∙ ap at second) in
    let eb = read_back c.i32_at-3.type_inv (c.i32_at-3.ensures ∙ ap at third) in
    ap₃ colour el ea eb
