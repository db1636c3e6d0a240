use Rattle.wait_queue.proofs.meeting.rotate.Given as goal
use Rattle.wait_queue.specs.Walks.{IsTurned}

abbrev pub invariant-loop : goal.invariant-loop
invariant-loop l = IsTurned l.counter l.initial.entries l.entries
