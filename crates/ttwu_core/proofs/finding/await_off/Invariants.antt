use Rattle.ttwu_core.proofs.Loops.{IsReading}
use Rattle.ttwu_core.proofs.finding.await_off.Given as goal

abbrev pub invariant-loop : goal.invariant-loop
invariant-loop g l = IsReading l.t l.initial.pass l.pass
