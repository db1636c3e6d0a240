use Rattle.pipe_bodies.proofs.RunLaws.{Turned}
use Rattle.pipe_bodies.proofs.running.round.Given as goal

abbrev pub invariant-loop-i : goal.invariant-loop-i
invariant-loop-i g l = Turned l.initial.bodies.items l.bodies.items
