use Rattle.std.proofs.Common.{◌≡◌, ◌++◌, length}
use Rattle.pipe_bodies.specs.Items.{as_texts}
use Rattle.pipe_bodies.proofs.parts.hold.Given as goal

abbrev pub invariant-loop-line : goal.invariant-loop-line
invariant-loop-line l = l.held ++ as_texts l.said ≡ l.initial.held ++ as_texts l.initial.said

abbrev pub decreases-loop-line : goal.decreases-loop-line
decreases-loop-line l = length l.said
