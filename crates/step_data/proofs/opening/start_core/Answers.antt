use Rattle.std.proofs.Common.{refl}
use Rattle.step_data.proofs.Tables.{table_rows}
use Rattle.step_data.proofs.opening.start_core.Goals as goal

pub returns : goal.returns
returns c =
    record {
      mask = c.all-mask.result;
      all = c.all-mask.ensures;
      rows = table_rows _ c.args.shape.now _ _ _ _ refl c.in_ok-tasks.ensures c.in_ok-cpus.ensures c.in_ok-conds.ensures c.in_ok-seats.ensures;
    }
