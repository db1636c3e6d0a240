use Rattle.std.proofs.Common.{◌≡◌, length}
use Rattle.wk_run.proofs.Known.{Written}
use Rattle.wk_run.proofs.transfer.write_output.Given as goal

abbrev pub invariant-loop-rest : goal.invariant-loop-rest
invariant-loop-rest g l = record {
  written : Written (g.K.Sink.taken l.fn.out) (g.K.Sink.taken l.out) l.bytes l.rest;
  quiet : g.K.Sink.faults l.out ≡ g.K.Sink.faults l.fn.out;
}

abbrev pub decreases-loop-rest : goal.decreases-loop-rest
decreases-loop-rest g l = length l.rest
