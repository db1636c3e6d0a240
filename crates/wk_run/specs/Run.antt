-- What a run reads and writes.
use Rattle.std.specs.Prelude.{◌≡◌, ℕ, Bool, true, false, List, [], ◌++◌, map, length, Option}
use Rattle.std.specs.List.{flat_map, zip}
use Rattle.std.specs.Io.KnownBytes.{Appends, Consumes, IsAtEnd}
use Rattle.command_words.specs.declared.words.RunOptions.{RunOptions}
use Rattle.handoff_data.specs.History.{History}
use Rattle.handoff_data.specs.declared.entry.Entry.{Entry}
use Rattle.journal_text.specs.Readable.{text_of}
use Rattle.journal_text.specs.Spelling.{spelling}
use Rattle.run_script.specs.Told.{TellsRun}
use Rattle.task_script.specs.declared.script.Script.{Script}
use Rattle.task_script.specs.declared.script.TaskDef.{TaskDef}
use Rattle.task_script.specs.Script.{IsScript, NotScript, FirstFault}
use Rattle.pipe_tasks.specs.Tasks.{forest_lines, meant_tasks}
use Rattle.task_script.specs.declared.plan.Plan.{Plan}
use Rattle.wk_run.specs.Input.{ReadsInput, WritesPart}
use Rattle.wk_run.specs.Named.{report_lines}

-- how many bytes a script has at most
abbrev pub script_limit : ℕ
script_limit = 16777216

-- ---- the report

-- the name of each task, and the lines that it has in the report: none where another task reads it
abbrev pub reported : List Plan → Script → List (List ℕ × List (List ℕ))
reported works script =
    zip (map (λ (task : TaskDef). task.name) script.tasks) (forest_lines (meant_tasks works script.tasks))

-- For each task that no other reads, in the order of the script, each of its lines: after its name, or alone. The lines
-- are those of the tasks as the caller means them, who brings works of these plans.
abbrev pub report_of : RunOptions → List Plan → Script → List ℕ
report_of options works script =
    flat_map (λ (task : List ℕ × List (List ℕ)). report_lines options.plain task.0 task.1)
    (reported works script)

-- the text of the journals, where they are asked for
abbrev pub trace_of : Bool → History → List ℕ
trace_of true journals = text_of (spelling journals)
trace_of false journals = []

-- the report, and behind it the text of the journals, where they are asked for
abbrev pub output_of : RunOptions → List Plan → Script → History → List ℕ
output_of options works script journals = report_of options works script ++ trace_of options.trace journals

-- The gates were told the run of a script, and the bytes are its output with these journals.
pub record TellsOutput {G : Type 0} (told : G → Option (List Entry)) (options : RunOptions) (works : List Plan)
    (script : Script) (bytes : List ℕ) (old new : List G) : Type 0 where
  pub tells : TellsRun told script old new
  pub is_output : bytes ≡ output_of options works script tells.journals

-- ---- the answers, where `held` and `left` are what the source tells before and after, and `before` and `after` what
-- the sink tells

-- The source was read to its end, and what was read is the bytes of this script, whose caller brings so many works.
pub record ReadsScript (customs : ℕ) (held left : Option (List ℕ)) (script : Script) : Type 0 where
  pub read : List ℕ
  pub taken : Consumes held left read
  pub to_end : IsAtEnd left
  pub is_script : IsScript customs read script

-- A script was read, and the gates, which were `old` and are `new`, were told its run: each the journal of its seat,
-- and the journals are one legal history of the script's tasks. Its report was written, and these journals where they
-- are asked for.
pub record WritesRun {G : Type 0} (told : G → Option (List Entry)) (options : RunOptions) (works : List Plan)
    (held left before after : Option (List ℕ)) (old new : List G) : Type 0 where
  pub script : Script
  pub reads : ReadsScript (length works) held left script
  pub tells : TellsRun told script old new
  pub writes : Appends before after (output_of options works script tells.journals)

-- The same, but that a part from the front of it was written.
pub record WritesRunPart {G : Type 0} (told : G → Option (List Entry)) (options : RunOptions) (works : List Plan)
    (held left before after : Option (List ℕ)) (old new : List G) : Type 0 where
  pub script : Script
  pub reads : ReadsScript (length works) held left script
  pub tells : TellsRun told script old new
  pub writes : WritesPart before after (output_of options works script tells.journals)

-- The source was read to its end or to one byte past the limit, what was read is no script, and its first fault is on
-- this line and has this code.
pub record ReadsFault (customs : ℕ) (held left : Option (List ℕ)) (line code : ℕ) : Type 0 where
  pub read : List ℕ
  pub input : ReadsInput script_limit held left read
  pub fault : FirstFault customs read line code
  pub no_script : NotScript customs read
