use Rattle.bench_wake.proofs.walks.walk_all.Given as goal
use Rattle.bench_wake.specs.Ready.{IsReady}

abbrev pub invariant-loop-k : goal.invariant-loop-k
invariant-loop-k g l = IsReady l.wk l.pass
