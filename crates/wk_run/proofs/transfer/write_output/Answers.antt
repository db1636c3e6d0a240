-- What is written so far, and what the last call did to it.
use Rattle.std.proofs.Common.{◌∙◌}
use Rattle.wk_run.proofs.Known.{on_err, written-more, written-part}
use Rattle.wk_run.proofs.transfer.write_output.Goals as goal

pub returns-in_err-count-clause-part : goal.returns-in_err-count-clause-part
returns-in_err-count-clause-part g c =
    on_err c.from_residual.result (written-part _ _ _ _ _ c.loop-rest.invariant.written c.in_err-count.ensures.bytes)

pub loop-rest-preserved : goal.loop-rest-preserved
loop-rest-preserved g c = record {
  written = rw c.split_at.ensures.back (written-more _ _ _ _ _ _ c.loop-rest.invariant.written c.in_ok-count.ensures.bytes);
  quiet = c.in_ok-count.ensures.cause ∙ c.loop-rest.invariant.quiet;
}

pub returns-clause-part : goal.returns-clause-part
returns-clause-part g c = on_err c.flush.result (written-part _ _ _ _ _ c.loop-rest.invariant.written c.flush.ensures.bytes)
