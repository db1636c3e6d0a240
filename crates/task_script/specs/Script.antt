-- Which bytes are a script, which script they are, and else the first fault.
use Rattle.std.specs.Prelude.{◌≡◌, ℕ, ◌+◌, ◌*◌, ◌≤◌, Bool, true, false, ◌&&◌, ◌||◌, not, ◌==◌, if◌then◌else◌, nat_lt}
use Rattle.std.specs.Prelude.{nat_le, List, [], ◌∷◌, ◌++◌, length, take, filter, Option, Some, None, unwrap_or, ⊤}
use Rattle.std.specs.List.{last_or, position, filter_map, flat_map, list_any}
use Rattle.std.specs.Option.{is_some, is_none, option_to_list}
use Rattle.std.specs.Str.{bytes_eq}
use Rattle.handoff_data.specs.declared.shape.Shape.{Shape}
use Rattle.task_script.specs.declared.plan.Plan.{Plan}
use Rattle.task_script.specs.declared.plan.Plan.TheVariants as plan
use Rattle.task_script.specs.declared.script.TaskDef.{TaskDef}
use Rattle.task_script.specs.declared.script.Script.{Script}
use Rattle.task_script.specs.Lines.{input_lines}
use Rattle.task_script.specs.Maps.{identity_map}
use Rattle.task_script.specs.Forms.{is_number, value_of, is_within, is_name, Kind, lines_kind, count_kind, upper_kind}
use Rattle.task_script.specs.Forms.{number_kind, keep_kind, drop_kind, tally_kind, pin_kind, custom_kind, cat_kind}
use Rattle.task_script.specs.Forms.{weave_kind}
use Rattle.task_script.specs.Forms.{reads, Form, skip_line, cpus_line, caches_line, room_line, task_line, text_line}
use Rattle.task_script.specs.Forms.{end_line, form_of}

-- ---- what lines of these forms say

-- the texts that follow; lines that are passed over may stand between
abbrev pub texts_of : List Form → List (List ℕ)
texts_of (text_line text ∷ forms) = text ∷ texts_of forms
texts_of (skip_line ∷ forms) = texts_of forms
texts_of _ = []

-- the number of the task of this name, if there is one
abbrev pub number_of : List (List ℕ) → List ℕ → Option ℕ
number_of names name = position (λ other. bytes_eq other name) names

-- a plan as it begins
abbrev pub plan_of : Kind → List (List ℕ) → Plan
plan_of lines_kind texts = plan.Lines texts
plan_of (count_kind number) texts = plan.Count 1 (value_of number)
plan_of (upper_kind source) texts = plan.Upper
plan_of (number_kind source) texts = plan.Number 1
plan_of (keep_kind prefix source) texts = plan.Keep prefix
plan_of (drop_kind prefix source) texts = plan.Drop prefix
plan_of (tally_kind source) texts = plan.Tally 0
plan_of (pin_kind number source) texts = plan.Pin (value_of number) false
plan_of (custom_kind number source) texts = plan.Table identity_map []
plan_of (cat_kind first second) texts = plan.Cat 0
plan_of (weave_kind first second) texts = plan.Weave 0 false

-- the number of the work that a task of this kind has, if it has one
abbrev pub custom_in : Kind → Option ℕ
custom_in (custom_kind number source) = Some (value_of number)
custom_in _ = None

-- a task with these texts behind it, after tasks of these names
abbrev pub task_of : List (List ℕ) → List ℕ → Kind → List (List ℕ) → TaskDef
task_of names name kind texts =
    record {
      name = name;
      plan = plan_of kind texts;
      custom = custom_in kind;
      from = filter_map (number_of names) (reads kind);
    }

-- the tasks of these lines, after tasks of these names
abbrev pub tasks_of : List (List ℕ) → List Form → List TaskDef
tasks_of names [] = []
tasks_of names (task_line name kind ∷ forms) =
    task_of names name kind (texts_of forms) ∷ tasks_of (names ++ name ∷ []) forms
tasks_of names (_ ∷ forms) = tasks_of names forms

-- what a line gives for the processors, for the size of a cache group, and for the room of a ring
abbrev pub cpus_in : Form → Option ℕ
cpus_in (cpus_line number) = Some (value_of number)
cpus_in _ = None

abbrev pub caches_in : Form → Option ℕ
caches_in (caches_line number) = Some (value_of number)
caches_in _ = None

abbrev pub room_in : Form → Option ℕ
room_in (room_line number) = Some (value_of number)
room_in _ = None

-- what lines give by such a line; at most one of them has it
abbrev pub given : (Form → Option ℕ) → List Form → Option ℕ
given number forms = last_or None (filter_map number forms)

-- the shape of a machine of so many tasks: by default all processors share a cache, and each task has two conditions
abbrev pub shape_of : ℕ → Option ℕ → ℕ → Shape
shape_of cpus caches tasks =
    record { cpus = cpus; caches = unwrap_or caches cpus; tasks = tasks; conds = 2 * tasks; agents = 0 }

abbrev pub script_of : List Form → Script
script_of forms =
    record {
      shape = shape_of (unwrap_or (given cpus_in forms) 1) (given caches_in forms) (length (tasks_of [] forms));
      room = unwrap_or (given room_in forms) 4;
      tasks = tasks_of [] forms;
    }

-- ---- what the lines before a line come to

-- the names of the tasks, the names that are read, and the numbers of works, by each line
abbrev pub named_in : Form → List (List ℕ)
named_in (task_line name kind) = name ∷ []
named_in _ = []

abbrev pub read_in : Form → List (List ℕ)
read_in (task_line name kind) = reads kind
read_in _ = []

abbrev pub works_in : Form → List ℕ
works_in (task_line name kind) = option_to_list (custom_in kind)
works_in _ = []

abbrev pub is_kept : Form → Bool
is_kept skip_line = false
is_kept _ = true

abbrev pub is_end : Form → Bool
is_end end_line = true
is_end _ = false

-- whether a text line may follow this line: behind a `lines` task and behind a text line
abbrev pub takes_text : Option Form → Bool
takes_text (Some (task_line name lines_kind)) = true
takes_text (Some (text_line text)) = true
takes_text _ = false

pub record SoFar : Type 0 where
  pub cpus : Option ℕ
  pub caches : Option ℕ
  pub room : Option ℕ
  -- the names of the tasks, and those that stand after a `from`
  pub names : List (List ℕ)
  pub sources : List (List ℕ)
  -- how many works the caller brings, and the numbers of those that tasks have
  pub customs : ℕ
  pub works : List ℕ
  -- a text line may come next
  pub texts : Bool
  -- `end` has stood
  pub ended : Bool

abbrev pub so_far : ℕ → List Form → SoFar
so_far customs forms =
    record {
      cpus = given cpus_in forms;
      caches = given caches_in forms;
      room = given room_in forms;
      names = flat_map named_in forms;
      sources = flat_map read_in forms;
      customs = customs;
      works = flat_map works_in forms;
      texts = takes_text (last_or None (filter is_kept forms));
      ended = list_any is_end forms;
    }

-- ---- the faults of a line, after lines that come to this

abbrev pub has_bad_count : Kind → Bool
has_bad_count (count_kind number) = not (is_within 0 1000000 number)
has_bad_count (pin_kind number source) = not (is_within 1 1000000 number)
has_bad_count (custom_kind number source) = not (is_number number)
has_bad_count _ = false

-- a cache group has 1 to all processors, and isn't judged by their number where that isn't given yet
abbrev pub is_bad_group : Option ℕ → List ℕ → Bool
is_bad_group None number = not (is_number number)
is_bad_group (Some cpus) number = not (is_within 1 cpus number)

-- a number of the form isn't one or isn't in range
abbrev pub bad_number : SoFar → Form → Bool
bad_number s (cpus_line number) = not (is_within 1 16 number)
bad_number s (caches_line number) = is_bad_group s.cpus number
bad_number s (room_line number) = not (is_within 1 64 number)
bad_number s (task_line name kind) = has_bad_count kind
bad_number s _ = false

-- the name of a task isn't one
abbrev pub bad_name : Form → Bool
bad_name (task_line name kind) = not (is_name name)
bad_name _ = false

-- an earlier task has the name
abbrev pub name_twice : SoFar → Form → Bool
name_twice s (task_line name kind) = is_some (number_of s.names name)
name_twice s _ = false

-- a name after `from` isn't that of an earlier task
abbrev pub lacks_task : List (List ℕ) → List (List ℕ) → Bool
lacks_task names sources = list_any (λ source. is_none (number_of names source)) sources

abbrev pub no_such_task : SoFar → Form → Bool
no_such_task s (task_line name kind) = lacks_task s.names (reads kind)
no_such_task s _ = false

-- one of these names stands among the earlier ones, or twice
abbrev pub reads_again : List (List ℕ) → List (List ℕ) → Bool
reads_again earlier [] = false
reads_again earlier (source ∷ sources) =
    list_any (λ other. bytes_eq other source) earlier || reads_again (source ∷ earlier) sources

abbrev pub already_read : SoFar → Form → Bool
already_read s (task_line name kind) = reads_again s.sources (reads kind)
already_read s _ = false

-- this is the 201st task
abbrev pub too_many : SoFar → Form → Bool
too_many s (task_line name kind) = nat_le 200 (length s.names)
too_many s _ = false

-- the form may not stand here: `cpus` first, then `caches` and `room` at most once each, then tasks, and `end`
abbrev pub has_tasks : List (List ℕ) → Bool
has_tasks names = not (length names == 0)

abbrev pub bad_order : SoFar → Form → Bool
bad_order s (cpus_line number) = is_some s.cpus
bad_order s (caches_line number) = is_none s.cpus || is_some s.caches || has_tasks s.names
bad_order s (room_line number) = is_none s.cpus || is_some s.room || has_tasks s.names
bad_order s (task_line name kind) = is_none s.cpus
bad_order s end_line = is_none s.cpus
bad_order s _ = false

-- the number of a work isn't below the number of works, or an earlier task has it
abbrev pub is_no_work : SoFar → Option ℕ → Bool
is_no_work s None = false
is_no_work s (Some number) = nat_le s.customs number || list_any (λ other. other == number) s.works

abbrev pub bad_custom : SoFar → Form → Bool
bad_custom s (task_line name kind) = is_no_work s (custom_in kind)
bad_custom s _ = false

-- a text line stands elsewhere than behind a `lines` task or a text line
abbrev pub text_without_task : SoFar → Form → Bool
text_without_task s (text_line text) = not s.texts
text_without_task s _ = false

-- each code of a line that has a form, by rising code, with whether it comes
abbrev pub faults : SoFar → Form → List (ℕ × Bool)
faults s form =
    (3, bad_number s form) ∷ (4, bad_name form) ∷ (5, name_twice s form) ∷ (6, no_such_task s form)
    ∷ (7, already_read s form) ∷ (8, too_many s form) ∷ (10, bad_order s form) ∷ (13, bad_custom s form)
    ∷ (14, text_without_task s form) ∷ []

-- the lowest code that comes
abbrev pub lowest : List (ℕ × Bool) → Option ℕ
lowest [] = None
lowest (fault ∷ more) = if fault.1 then Some fault.0 else lowest more

-- the code of a line of this form, if it has a fault; behind `end` nothing but lines that are passed over may stand
abbrev pub form_code : SoFar → Option Form → Option ℕ
form_code s None = Some (if s.ended then 12 else 2)
form_code s (Some form) = if s.ended && is_kept form then Some 12 else lowest (faults s form)

-- the code of a line, if it has a fault
abbrev pub line_code : SoFar → List ℕ → Option ℕ
line_code s line = if nat_lt 4096 (length line) then Some 1 else form_code s (form_of line)

-- ---- scripts and first faults, where the caller brings so many works

-- a line is faultless after these lines, and has this form
pub record IsFaultless (customs : ℕ) (before : List Form) (line : List ℕ) (form : Form) : Type 0 where
  pub formed : form_of line ≡ Some form
  pub good : line_code (so_far customs before) line ≡ None

-- each line is faultless after those before it, and these are the forms
abbrev pub AreFaultless : ℕ → List Form → List (List ℕ) → List Form → Type 0
AreFaultless customs before [] [] = ⊤
AreFaultless customs before [] (form ∷ forms) = ⊥
AreFaultless customs before (line ∷ lines) [] = ⊥
AreFaultless customs before (line ∷ lines) (form ∷ forms) =
    IsFaultless customs before line form × AreFaultless customs (before ++ form ∷ []) lines forms

-- the bytes are a script, and it is this one
pub record IsScript (customs : ℕ) (bytes : List ℕ) (script : Script) : Type 0 where
  pub within : length bytes ≤ 16777216
  pub forms : List Form
  pub faultless : AreFaultless customs [] (input_lines bytes) forms
  pub ended : list_any is_end forms ≡ true
  pub says : script ≡ script_of forms

-- the bytes are no script
abbrev pub NotScript : ℕ → List ℕ → Type 0
NotScript customs bytes = (script : Script) → IsScript customs bytes script → ⊥

-- the lines that are judged: where there are more bytes than a script may have, the one behind them is the last
abbrev pub judged_lines : List ℕ → List (List ℕ)
judged_lines bytes = input_lines (take 16777217 bytes)

abbrev pub is_over : List ℕ → Bool
is_over bytes = nat_lt 16777216 (length bytes)

-- the code of a line with these behind it, where the input is over its limit or not
abbrev pub code_of : Bool → List (List ℕ) → SoFar → List ℕ → Option ℕ
code_of true [] s line = Some (unwrap_or (line_code s line) 16)
code_of over more s line = line_code s line

-- the line behind these lines is the first that is faulty, or there is none and `end` has not stood
pub data IsFaulty (bytes : List ℕ) (front : List (List ℕ)) (s : SoFar) (code : ℕ) : Type 0 where
  faulty_line : (line : List ℕ) (more : List (List ℕ)) → judged_lines bytes ≡ front ++ line ∷ more
      → code_of (is_over bytes) more s line ≡ Some code → IsFaulty bytes front s code
  no_end : is_over bytes ≡ false → judged_lines bytes ≡ front → s.ended ≡ false → code ≡ 11
      → IsFaulty bytes front s code

-- the first fault of the bytes is on this line, and has this code, the lowest there
pub record FirstFault (customs : ℕ) (bytes : List ℕ) (line code : ℕ) : Type 0 where
  pub front : List (List ℕ)
  pub forms : List Form
  pub faultless : AreFaultless customs [] front forms
  pub faulty : IsFaulty bytes front (so_far customs forms) code
  pub numbered : line ≡ length front + 1
