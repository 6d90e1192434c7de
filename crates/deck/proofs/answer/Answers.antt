-- `deck::answer` meets its contract, with room and without. Assumes nothing.
use mathlib.Core.Path.{◌∙◌}
use lib.Seq.{length-take-le}
use Rattle.deck.proofs.DeckLaws.{answers-fit, answers-short}
use Rattle.deck.proofs.answer.Goals as goal

pub returns-then-n-room : goal.returns-then-n-room
returns-then-n-room c =
    let size = length-take-le c.args.n c.args.matches.now c.requires in
    let fit = answers-fit _ c.args.places.now _ size c.if-n-room.true in record { answer = fit.0; contents = c.copy_front.ensures ∙ fit.1 }

pub returns : goal.returns
returns c = let p = let size = length-take-le c.args.n c.args.matches.now c.requires in
    answers-short _ c.args.places.now _ size c.if-n-room.false in record { answer = p.0; contents = p.1 }
