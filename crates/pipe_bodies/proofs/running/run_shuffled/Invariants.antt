use Rattle.pipe_bodies.proofs.RunLaws.{GoesOn}
use Rattle.pipe_bodies.proofs.running.run_shuffled.Given as goal

abbrev pub invariant-loop : goal.invariant-loop
invariant-loop g l = GoesOn l.fn.bodies.items l.bodies.items l.counter
