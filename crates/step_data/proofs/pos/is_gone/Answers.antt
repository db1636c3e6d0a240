use Rattle.std.proofs.Common.{◌<◌, ◌==◌, length, false, arith}
use Rattle.std.specs.Prelude.{◌&&◌}
use mathlib.Core.Bool.{not}
use Rattle.core_data.specs.Entries.{has_entry}
use Rattle.core_data.specs.declared.values.WaitEntry.{WaitEntry}
use Rattle.step_data.proofs.EntryLemmas.{found_more}
use Rattle.step_data.proofs.pos.is_gone.Goals as goal

pub loop-x-preserved : goal.loop-x-preserved
loop-x-preserved c =
    let lt : c.loop-x.x-index < length c.args.taken.now = omega arith in
    let d : WaitEntry = record { t = 0; exclusive = false } in
    found_more (λ x. (x.t == c.args.t) && not (has_entry c.args.given.now x)) c.args.taken.now c.loop-x.x-index d _ _ _ lt c.or_known-gone.ensures c.is_gone_entry.ensures c.loop-x.invariant
