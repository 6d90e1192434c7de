-- CIE76 in whole numbers of 10^-6. Assumes nothing.
use Rattle.std.specs.Prelude.{ℕ, ◌+◌, ◌*◌, ◌-ℤ◌}
use Rattle.isqrt.specs.Root.{root_of}
use Rattle.sample.specs.Sample.{Sample}
use Rattle.difference.specs.Parts.{squared}
use Rattle.difference.specs.Pair.{lightness_difference}

-- root(10^4 (dL² + da² + db²))
unfoldable pub cie76_of : Sample → Sample → ℕ
cie76_of s t = root_of (10000 * (squared (lightness_difference s t) + squared (t.a -ℤ s.a) + squared (t.b -ℤ s.b)))
