-- `text::finish` meets its contract. Assumes nothing.
use mathlib.Core.Path.{refl, sym, ap, ◌∙◌}
use mathlib.Core.Bool.{false≢true}
use lib.Dec.{lit≤}
use Rattle.buffer.proofs.WritingLaws.{written_is, written_none, written-take}
use Rattle.text.specs.Stream.{answer_most, last_text}
use Rattle.text.proofs.Whole.{last_empty, last-held, ends}
use Rattle.text.proofs.finish.Goals as goal

pub returns-then-is_empty : goal.returns-then-is_empty
returns-then-is_empty c =
    let e = last_empty ∙ ap last_text (sym (c.if-is_empty.ensures.0 refl)) in
    let w = written_is e (written_none _ 0 answer_most) in
    let bytes = written-take (lit≤ tt) w in
    rw (c.new.ensures.0, c.new.ensures.1) (record { last = w; bytes = bytes; whole = ends bytes })

pub returns : goal.returns
returns c =
    let e = last-held _ (λ e. false≢true (c.if-is_empty.ensures.1 e)) in
    let w = written_is e c.put_answer-len.ensures in
    let bytes = written-take (lit≤ tt) w in
    rw (c.new-2.ensures.0, c.new-2.ensures.1) (record { last = w; bytes = bytes; whole = ends bytes })
