use Rattle.bench_switch.proofs.sleeps.repeat.Given as goal
use Rattle.bench_switch.specs.Ready.{IsUnused}

abbrev pub invariant-loop : goal.invariant-loop
invariant-loop g l = IsUnused l.wk l.pass
