use Rattle.ttwu_core.proofs.Loops.{IsBusy}
use Rattle.ttwu_core.proofs.claiming.await_again.Given as goal

abbrev pub invariant-loop : goal.invariant-loop
invariant-loop g l = IsBusy l.t l.initial.pass l.pass
