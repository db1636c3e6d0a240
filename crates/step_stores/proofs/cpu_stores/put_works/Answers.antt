use Rattle.step_stores.proofs.Stores.{put_works_lem}
use Rattle.step_stores.proofs.cpu_stores.put_works.Goals as goal

pub returns : goal.returns
returns c = put_works_lem c.args.core.now c.args.c c.index_mut-row.result.now c.args.val c.requires c.index_mut-row.ensures.value
