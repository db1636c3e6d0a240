use Rattle.step_stores.proofs.Stores.{set_reads_lem}
use Rattle.step_stores.proofs.seat_stores.set_reads.Goals as goal

pub returns : goal.returns
returns c = set_reads_lem c.args.core.now c.args.s c.index_mut-row.result.now _ c.args.reads c.requires c.index_mut-row.ensures.value c.in_ok-set_reads.ensures
