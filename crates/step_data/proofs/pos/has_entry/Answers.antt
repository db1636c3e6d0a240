use Rattle.std.proofs.Common.{◌<◌, length, false, arith}
use Rattle.core_data.specs.Entries.{same_entry}
use Rattle.core_data.specs.declared.values.WaitEntry.{WaitEntry}
use Rattle.step_data.proofs.EntryLemmas.{found_more}
use Rattle.step_data.proofs.pos.has_entry.Goals as goal

pub loop-x-preserved : goal.loop-x-preserved
loop-x-preserved c =
    let lt : c.loop-x.x-index < length c.args.entries.now = omega arith in
    let d : WaitEntry = record { t = 0; exclusive = false } in
    found_more (λ x. same_entry x c.args.entry.now) c.args.entries.now c.loop-x.x-index d _ _ _ lt c.or_known-found.ensures c.is_same_entry.ensures c.loop-x.invariant
