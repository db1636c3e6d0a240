-- What a script is written as.
use Rattle.std.specs.Prelude.{ℕ, List, Option}
use Rattle.std.specs.Io.KnownBytes.{Appends}
use Rattle.script_writer.specs.Spelling.{spelled}
use Rattle.task_script.specs.declared.script.Script.{Script}
use Rattle.wk_run.specs.Input.{WritesPart}
use Rattle.wk_run.specs.Run.{ReadsScript}

-- A script was read, and its one spelling was written.
pub record WritesPlan (customs : ℕ) (held left before after : Option (List ℕ)) : Type 0 where
  pub script : Script
  pub reads : ReadsScript customs held left script
  pub writes : Appends before after (spelled script)

-- A script was read, and a part from the front of its spelling was written.
pub record WritesPlanPart (customs : ℕ) (held left before after : Option (List ℕ)) : Type 0 where
  pub script : Script
  pub reads : ReadsScript customs held left script
  pub writes : WritesPart before after (spelled script)
