-- `text::State::push` meets its contract. Assumes nothing.
use borrow.Author.Rules.{rules}
use Rattle.text.specs.Stream.{held_with}
use Rattle.text.proofs.Holding.{push-some, push-most}
use Rattle.text.proofs.State.push.Goals as goal
use Rattle.text.proofs.State.push.Goals.{in_default-via-in-Some+else-len-lt-LINE_MOST, in_default-via-in_default}

pub returns-in-Some : goal.returns-in-Some
returns-in-Some c = rw c.in-Some.is (push-some _ _ (search rules) c.if-len-lt-LINE_MOST.true)

pub returns-in_default : goal.returns-in_default
unfolding held_with
returns-in_default c =
    elim c.in_default.branch [
      | in_default-via-in-Some+else-len-lt-LINE_MOST w ↦
          rw w.in-Some.is (push-most _ _ (search rules) w.if-len-lt-LINE_MOST.false)
      | in_default-via-in_default w ↦ rw w.in_default.is
    ]
