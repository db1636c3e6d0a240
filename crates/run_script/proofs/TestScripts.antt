-- The scripts of the tests.
use Rattle.std.proofs.Common.{ℕ, List}
use Rattle.task_script.specs.Script.{IsScript}
use Rattle.task_script.specs.declared.script.Script.{Script}

pub some_script : (customs : ℕ) (bytes : List ℕ) (s : Script) → IsScript customs bytes s → (b : List ℕ) × IsScript customs b s
some_script customs bytes s i = (bytes, i)
