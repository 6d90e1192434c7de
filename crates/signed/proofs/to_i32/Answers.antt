-- What `to_i64` returns is the value of an `Int` whose size fits 31 bits, so the cast loses nothing.
use mathlib.Core.Path.{sym, subst, ◌∙◌}
use mir.Syntax.{w32, w64}
use mir.Val.{SFits}
use Rattle.signed.proofs.Border.{read_fits, read_twice, wider, int-fits}
use Rattle.signed.proofs.to_i32.Goals as goal

fits : (c : goal.After-to_i64) → SFits w32 c.to_i64.result
fits c = subst (SFits w32) (sym c.to_i64.ensures) (int-fits w32 _ c.requires)

pub overflow_cast-result : goal.overflow_cast-result
overflow_cast-result c = read_fits w32 w64 _ (wider (fits c)) (fits c)

pub returns : goal.returns
returns c = read_twice w32 w64 _ (wider (fits c)) (fits c) ∙ c.to_i64.ensures
