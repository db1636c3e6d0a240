use Rattle.std.proofs.Common.{◌∙◌, sym, ap, subst, map, List}
use Rattle.run_cells.proofs.NetMapLaws.{net_map_of}
use Rattle.run_cells.proofs.net_map.NetMap.of.Goals as goal
use Rattle.run_cells.specs.NetMaps.{inputs_of, IsNetMap}
use Rattle.run_cells.specs.declared.net_map.Inputs.{Inputs}

pub returns-clause-map : goal.returns-clause-map
returns-clause-map c =
    subst (λ (z : List Inputs). IsNetMap z c.args.script.now.shape) (sym (c.in_ok-inputs.ensures.inputs ∙ ap (map inputs_of) c.as_slice-tasks.ensures))
    (net_map_of c.args.script.now (c.law_script.ensures.forest c.requires.script.0 c.requires.script.1 c.args.script.now c.requires.script.2)
    (c.law_script.ensures.machine c.requires.script.0 c.requires.script.1 c.args.script.now c.requires.script.2))
