use Rattle.bench_switch.proofs.switches.repeat.Given as goal
use Rattle.bench_switch.specs.Ready.{IsReady}

abbrev pub invariant-loop : goal.invariant-loop
invariant-loop g l = IsReady l.wk l.pass
