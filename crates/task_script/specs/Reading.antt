-- What the reader holds, and what one line does to it. `Script` says what a script is and which fault is the first; the
-- two are shown to agree.
use Rattle.std.specs.Prelude.{◌≡◌, ℕ, ◌+◌, ◌<◌, ◌≤◌, ◌^◌, Bool, true, false, IsTrue, if◌then◌else◌, List, [], ◌∷◌, ◌++◌}
use Rattle.std.specs.Prelude.{length, Option, Some, None, Result, Ok, Err, unwrap_or, IfSome, ⊤}
use Rattle.std.specs.Option.{IsSomeAnd, is_some, option_map, option_to_list}
use Rattle.task_script.specs.declared.reader.Source.{Source}
use Rattle.task_script.specs.declared.reader.Reader.{Reader}
use Rattle.task_script.specs.declared.script.TaskDef.{TaskDef}
use Rattle.task_script.specs.declared.script.Script.{Script}
use Rattle.task_script.specs.declared.script.ScriptFault.{ScriptFault}
use Rattle.task_script.specs.declared.script.ScriptError.{ScriptError}
use Rattle.task_script.specs.declared.script.ScriptError.TheVariants as errors
use Rattle.task_script.specs.Forms.{value_of, is_name, Kind, lines_kind, reads, Form, skip_line, cpus_line, caches_line}
use Rattle.task_script.specs.Forms.{room_line, task_line, text_line, end_line, form_of}
use Rattle.task_script.specs.Script.{shape_of, task_of, custom_in, SoFar, line_code, judged_lines, is_over}

-- what the lines so far come to, and their tasks; a `lines` task whose texts may still come stands apart
pub record State : Type 0 where
  pub cpus : Option ℕ
  pub caches : Option ℕ
  pub room : Option ℕ
  pub names : List (List ℕ)
  pub sources : List (List ℕ)
  pub customs : ℕ
  pub works : List ℕ
  pub ended : Bool
  pub tasks : List TaskDef
  pub source : Option Source

abbrev pub state_of : Reader → State
state_of r =
    record {
      cpus = r.cpus;
      caches = r.caches;
      room = r.room;
      names = r.names;
      sources = r.sources;
      customs = r.customs;
      works = r.works.items;
      ended = r.ended;
      tasks = r.tasks.items;
      source = r.source;
    }

abbrev pub start : ℕ → State
start customs = record {
  cpus = None;
  caches = None;
  room = None;
  names = [];
  sources = [];
  customs = customs;
  works = [];
  ended = false;
  tasks = [];
  source = None;
}

abbrev pub held : State → SoFar
held s =
    record {
      cpus = s.cpus;
      caches = s.caches;
      room = s.room;
      names = s.names;
      sources = s.sources;
      customs = s.customs;
      works = s.works;
      texts = is_some s.source;
      ended = s.ended;
    }

abbrev pub source_task : Source → TaskDef
source_task source = task_of [] source.name lines_kind source.texts

abbrev pub all_tasks : State → List TaskDef
all_tasks s = s.tasks ++ option_to_list (option_map source_task s.source)

-- after the last text of a source
abbrev pub closed : State → State
closed s = record s { tasks = all_tasks s; source = None }

-- the source that a task of this kind is
abbrev pub opened : List ℕ → Kind → Option Source
opened name lines_kind = Some (record { name = name; texts = [] })
opened name kind = None

-- the task of this kind, unless it is a source whose texts are still to come
abbrev pub added : List (List ℕ) → List ℕ → Kind → List TaskDef
added names name lines_kind = []
added names name kind = task_of names name kind [] ∷ []

-- a line of this form, after the last text of a source
abbrev pub settled : State → Form → State
settled s (cpus_line number) = record s { cpus = Some (value_of number) }
settled s (caches_line number) = record s { caches = Some (value_of number) }
settled s (room_line number) = record s { room = Some (value_of number) }
settled s (task_line name kind) =
    record s {
      names = s.names ++ name ∷ [];
      sources = s.sources ++ reads kind;
      works = s.works ++ option_to_list (custom_in kind);
      tasks = s.tasks ++ added s.names name kind;
      source = opened name kind;
    }
settled s end_line = record s { ended = true }
settled s _ = s

abbrev pub with_text : Option Source → List ℕ → Option Source
with_text None text = None
with_text (Some source) text = Some (record { name = source.name; texts = source.texts ++ text ∷ [] })

-- a line of this form
abbrev pub next : State → Form → State
next s skip_line = s
next s (text_line text) = record s { source = with_text s.source text }
next s form = settled (closed s) form

-- the number of a work, if there is one, is below the number of works
abbrev pub IsBelow : ℕ → Option ℕ → Type 0
IsBelow customs number = IfSome number (λ n. n < customs)

-- numbers and names that the reader can keep
abbrev pub CanSettle : SoFar → Form → Type 0
CanSettle s (cpus_line number) = value_of number < 2 ^ 32
CanSettle s (caches_line number) = IsSomeAnd s.cpus (λ cpus. value_of number ≤ cpus)
CanSettle s (room_line number) = value_of number < 2 ^ 32
CanSettle s (task_line name kind) = IsTrue (is_name name) × (length s.names < 200) × IsBelow s.customs (custom_in kind)
CanSettle s _ = ⊤

-- ---- a line, the lines, and the whole input

abbrev pub fault_at : ℕ → ℕ → ScriptFault
fault_at line code = record { line = line; code = code }

abbrev pub stepped : ℕ → State → Option ℕ → Option Form → Result State ScriptFault
stepped line s (Some code) form = Err (fault_at line code)
stepped line s None None = Ok s
stepped line s None (Some form) = Ok (next s form)

unfoldable pub step : ℕ → State → List ℕ → Result State ScriptFault
step number s line = stepped number s (line_code (held s) line) (form_of line)

abbrev pub and_then : Result State ScriptFault → (State → Result State ScriptFault) → Result State ScriptFault
and_then (Err fault) more = Err fault
and_then (Ok s) more = more s

abbrev pub run : ℕ → State → List (List ℕ) → Result State ScriptFault
run number s [] = Ok s
run number s (line ∷ lines) = and_then (step number s line) (λ t. run (number + 1) t lines)

abbrev pub judged : Bool → ℕ → Result State ScriptFault → Result State ScriptFault
judged over lines (Err fault) = Err fault
judged over lines (Ok s) =
    if over then Err (fault_at lines 16)
    else if s.ended then Ok s
    else Err (fault_at (lines + 1) 11)

unfoldable pub verdict : ℕ → List ℕ → Result State ScriptFault
verdict customs bytes =
    judged (is_over bytes) (length (judged_lines bytes)) (run 1 (start customs) (judged_lines bytes))

-- what a function returned is what reading gives, seen by view, unless memory ran out
abbrev pub Fails : {Y : Type 0} → ScriptError → Result Y ScriptFault → Type 0
Fails errors.NoMemory read = ⊤
Fails (errors.Bad fault) read = read ≡ Err fault

abbrev pub Gives : {X Y : Type 0} → (X → Y) → Result X ScriptError → Result Y ScriptFault → Type 0
Gives view (Ok x) read = read ≡ Ok (view x)
Gives view (Err error) read = Fails error read

-- the script of what the reader has at the end
abbrev pub IsScriptOf : State → Script → Type 0
IsScriptOf s script =
    (script.tasks ≡ s.tasks) × (script.shape ≡ shape_of (unwrap_or s.cpus 1) s.caches (length s.tasks))
    × (script.room ≡ unwrap_or s.room 4)
