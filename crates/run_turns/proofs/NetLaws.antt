-- The inputs of a task, as the map has them.
use Rattle.std.proofs.Common.{◌≡◌, ◌<◌, ℕ, List, length, sym, subst}
use Rattle.std.specs.Prelude.{slice_index_or}
use Rattle.handoff_data.specs.declared.shape.Shape.{Shape}
use Rattle.run_cells.specs.NetMaps.{AreWithin, IsNetMap}
use Rattle.run_cells.specs.declared.net_map.Inputs.{Inputs}

pub inputs_within : (net : List Inputs) (shape : Shape) (t : ℕ) (x : Inputs) → IsNetMap net shape → t < length net
    → ((d : Inputs) → x ≡ slice_index_or net t d) → AreWithin shape.tasks x
inputs_within net shape t x map low at = subst (AreWithin shape.tasks) (sym (at x)) (map.within t x low)
