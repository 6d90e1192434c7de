-- What a number in 32 bits keeps of a number of any size.
use Rattle.std.specs.Prelude.{◌≡◌, false, ℤ}
use Rattle.sample.specs.Sample.{lightness_out, opponent_out}

-- y is within the limits where x is, and then it is x
pub record Narrowed (x y : ℤ) : Type 0 where
  pub lightness : lightness_out y ≡ lightness_out x
  pub opponent : opponent_out y ≡ opponent_out x
  pub same : opponent_out x ≡ false → y ≡ x
