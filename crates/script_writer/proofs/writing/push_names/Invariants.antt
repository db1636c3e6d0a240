use Rattle.std.proofs.Common.{◌≡◌, ◌++◌, map, drop}
use Rattle.std.specs.List.{flat_map}
use Rattle.script_writer.specs.Spelling.{behind_space, name_of}
use Rattle.script_writer.proofs.writing.push_names.Given as goal

-- what is written and the names that are left are all names
abbrev pub invariant-loop-source : goal.invariant-loop-source
invariant-loop-source l =
    l.bytes.items ++ flat_map behind_space (map (name_of l.tasks) (drop l.source-index l.sources))
    ≡ l.fn.bytes.items ++ flat_map behind_space (map (name_of l.tasks) l.sources)
