use Rattle.bench_switch.proofs.switches.start_all.Given as goal
use Rattle.bench_switch.specs.Ready.{IsUnused}

abbrev pub invariant-loop-t : goal.invariant-loop-t
invariant-loop-t g l = IsUnused l.wk l.pass
