use Rattle.bench_switch.proofs.sleeps.sleep_all.Given as goal
use Rattle.bench_switch.specs.Ready.{IsUnused}

abbrev pub invariant-loop-k : goal.invariant-loop-k
invariant-loop-k g l = IsUnused l.wk l.pass
