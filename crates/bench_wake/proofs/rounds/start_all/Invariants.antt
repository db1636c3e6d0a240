use Rattle.bench_wake.proofs.rounds.start_all.Given as goal
use Rattle.bench_wake.specs.Ready.{IsReady}

abbrev pub invariant-loop-t : goal.invariant-loop-t
invariant-loop-t g l = IsReady l.wk l.pass
