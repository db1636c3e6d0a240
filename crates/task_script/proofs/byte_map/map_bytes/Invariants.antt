use Rattle.std.proofs.Common.{◌≡◌, ◌++◌, map, take, drop}
use Rattle.task_script.specs.Maps.{mapped_byte}
use Rattle.task_script.proofs.byte_map.map_bytes.Given as goal

abbrev pub invariant-loop-byte : goal.invariant-loop-byte
invariant-loop-byte l = l.bytes ≡ map (mapped_byte l.table) (take l.byte-index l.initial.bytes) ++ drop l.byte-index l.initial.bytes
