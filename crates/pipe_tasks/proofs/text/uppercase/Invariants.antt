use Rattle.std.proofs.Common.{◌≡◌, ◌++◌, map, take, drop}
use Rattle.std.specs.Char.{to_ascii_uppercase}
use Rattle.pipe_tasks.proofs.text.uppercase.Given as goal

abbrev pub invariant-loop-byte : goal.invariant-loop-byte
invariant-loop-byte l = l.bytes ≡ map to_ascii_uppercase (take l.byte-index l.initial.bytes) ++ drop l.byte-index l.initial.bytes
