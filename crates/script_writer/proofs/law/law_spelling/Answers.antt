use Rattle.std.proofs.Common.{ℕ, List}
use Rattle.task_script.specs.declared.script.Script.{Script}
use Rattle.task_script.specs.Script.{IsScript}
use Rattle.script_writer.specs.Spelling.{spelled, IsWithin}
use Rattle.script_writer.proofs.TextBack.{spelled_is_script, only_script, one_spelling}
use Rattle.script_writer.proofs.law.law_spelling.Goals as goal

pub returns : goal.returns
returns c =
    let law = c.law_script.ensures in
    let back : (customs : ℕ) (bytes : List ℕ) (s : Script) → IsScript customs bytes s → IsWithin s → IsScript customs (spelled s) s =
    λ customs bytes s is. spelled_is_script customs s (law.machine customs bytes s is) (law.room customs bytes s is) (law.forest customs bytes s is) (law.names customs bytes s is)
    (law.plans customs bytes s is) (law.customs customs bytes s is) in
    record {
      valid = spelled_is_script;
      read_back = back;
      only = λ customs bytes s t is within. only_script law.one_script customs s t (back customs bytes s is within);
      apart = λ customs more bytes others s t is other within fits. one_spelling law.one_script customs more s t (back customs bytes s is within) (back more others t other fits);
    }
