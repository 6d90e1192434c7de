use Rattle.hue.proofs.Turned.+tenth.Given as goal

abbrev pub decreases-tenth : goal.decreases-tenth
decreases-tenth l = l.width
