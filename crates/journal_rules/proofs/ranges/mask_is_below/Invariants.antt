use Rattle.std.proofs.Common.{◌<◌, ◌≤◌, ℕ}
use Rattle.handoff_data.specs.Mask.{HasCpu}
use Rattle.journal_rules.proofs.ranges.mask_is_below.Given as goal

abbrev pub invariant-loop-c : goal.invariant-loop-c
invariant-loop-c l = (k : ℕ) → l.cpus ≤ k → k < l.c → HasCpu l.mask k → ⊥
