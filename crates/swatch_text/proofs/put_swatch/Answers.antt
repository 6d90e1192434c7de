-- `swatch_text::put_swatch` meets its contract. Assumes nothing.
use Rattle.buffer.proofs.WritingLaws.{written-append}
use Rattle.swatch_text.specs.Lines.{swatch_text}
use Rattle.swatch_text.proofs.LineLaws.{stored-written}
use Rattle.swatch_text.proofs.put_swatch.Goals as goal

pub returns : goal.returns
unfolding swatch_text
returns c =
    written-append c.put_number-l.ensures
    (written-append (stored-written _ _ c.struct_told-3-1.given.1.0.1 c.put_value-a.ensures)
    (written-append (stored-written _ _ c.struct_told-3-1.given.1.1.0.1 c.put_value-b.ensures)
    (stored-written _ _ c.struct_told-3-1.given.1.1.1.0.1 c.put_value.ensures)))
