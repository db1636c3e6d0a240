-- Tables that steps are made on.
use Rattle.std.specs.Prelude.{◌<◌}
use Rattle.handoff_data.specs.declared.shape.Shape.{Shape}

-- there is a task, a processor and a condition with the number 0
pub record IsSmall (shape : Shape) : Type 0 where
  pub some_task : 0 < shape.tasks
  pub some_cpu : 0 < shape.cpus
  pub some_cond : 0 < shape.conds
