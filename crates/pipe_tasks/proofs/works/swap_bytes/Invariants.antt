use Rattle.std.proofs.Common.{◌≡◌, ◌++◌, map, take, drop}
use Rattle.pipe_tasks.specs.Works.{swapped_byte}
use Rattle.pipe_tasks.proofs.works.swap_bytes.Given as goal

abbrev pub invariant-loop-byte : goal.invariant-loop-byte
invariant-loop-byte l = l.bytes ≡ map swapped_byte (take l.byte-index l.initial.bytes) ++ drop l.byte-index l.initial.bytes
