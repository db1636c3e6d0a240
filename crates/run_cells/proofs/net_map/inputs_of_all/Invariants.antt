use Rattle.std.proofs.Common.{◌≡◌, map, take}
use Rattle.run_cells.specs.NetMaps.{inputs_of}
use Rattle.run_cells.proofs.net_map.inputs_of_all.Given as goal

abbrev pub invariant-loop-task : goal.invariant-loop-task
invariant-loop-task l = record { inputs : l.inputs.items ≡ map inputs_of (take l.task-index l.tasks) }
