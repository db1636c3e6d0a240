use Rattle.std.proofs.Common.{◌≡◌, ◌==◌, take}
use Rattle.core_data.specs.Found.{found, no_reads}
use Rattle.core_data.specs.declared.pos.TaskReads.{TaskReads}
use Rattle.step_data.proofs.pos.find_reads.Given as goal

abbrev pub invariant-loop-x : goal.invariant-loop-x
invariant-loop-x l = l.known ≡ found (λ (x : TaskReads). l.t == x.t) (λ x. x) (no_reads l.t) (take l.x-index l.reads)
