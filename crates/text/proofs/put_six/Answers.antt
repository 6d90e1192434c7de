-- `text::put_six` meets its contract. Assumes nothing.
use Rattle.text.proofs.FigureLaws.{line-last, line_before}
use Rattle.text.proofs.put_six.Goals as goal

pub returns : goal.returns
returns c =
    let w6 = line-last _ c.put_fixed.ensures in
    let w5 = line_before _ _ _ c.put_fixed-i5.ensures w6 in
    let w4 = line_before _ _ _ c.put_fixed-i4.ensures w5 in
    let w3 = line_before _ _ _ c.put_fixed-i3.ensures w4 in
    let w2 = line_before _ _ _ c.put_fixed-i2.ensures w3 in
    line_before _ _ _ c.put_fixed-i1.ensures w2
