use Rattle.std.proofs.Common.{◌<◌, ◌==◌, length, arith}
use Rattle.core_data.specs.Found.{no_reads}
use Rattle.core_data.specs.declared.pos.TaskReads.{TaskReads}
use Rattle.step_data.proofs.FoundLemmas.{found_more}
use Rattle.step_data.proofs.pos.find_reads.Goals as goal

pub loop-x-preserved : goal.loop-x-preserved
loop-x-preserved c =
    let lt : c.loop-x.x-index < length c.args.reads.now = omega arith in
    let e : TaskReads = no_reads 0 in
    found_more (λ (x : TaskReads). c.args.t == x.t) (λ x. x) (no_reads c.args.t) c.args.reads.now c.loop-x.x-index e _ _ lt c.newer_reads-known.ensures c.loop-x.invariant
