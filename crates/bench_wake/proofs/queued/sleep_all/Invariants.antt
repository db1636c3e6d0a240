use Rattle.bench_wake.proofs.queued.sleep_all.Given as goal
use Rattle.bench_wake.specs.Ready.{IsReady}

abbrev pub invariant-loop : goal.invariant-loop
invariant-loop g l = IsReady l.wk l.pass
