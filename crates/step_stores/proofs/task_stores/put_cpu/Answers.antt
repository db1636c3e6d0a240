use Rattle.step_stores.proofs.Stores.{put_cpu_lem}
use Rattle.step_stores.proofs.task_stores.put_cpu.Goals as goal

pub returns : goal.returns
returns c = put_cpu_lem c.args.core.now c.args.t c.index_mut-row.result.now c.args.cpu c.requires c.index_mut-row.ensures.value
