-- The one canonical spelling of a script.
use Rattle.std.specs.Prelude.{◌≤◌, ◌++◌, ℕ, List, [], ◌∷◌, Option, unwrap_or, length, map, get_or, codes, All}
use Rattle.std.specs.Fmt.{decimal}
use Rattle.std.specs.List.{flat_map}
use Rattle.task_script.specs.declared.plan.Plan.{Plan}
use Rattle.task_script.specs.declared.plan.Plan.TheVariants.{Lines, Count, Upper, Number, Keep, Drop, Tally, Cat, Weave}
use Rattle.task_script.specs.declared.plan.Plan.TheVariants.{Pin, Table}
use Rattle.task_script.specs.declared.script.TaskDef.{TaskDef}
use Rattle.task_script.specs.declared.script.Script.{Script}
use Rattle.task_script.specs.Valid.{names_of}

-- ---- a line of words

abbrev pub behind_space : List ℕ → List ℕ
behind_space word = 32 ∷ word

-- words with one space between each two
abbrev pub spaced : List (List ℕ) → List ℕ
spaced [] = []
spaced (word ∷ words) = word ++ flat_map behind_space words

-- a word and a number without leading zeros
abbrev pub spelled_setting : List ℕ → ℕ → List ℕ
spelled_setting word number = spaced (word ∷ decimal number ∷ [])

-- ---- a task

-- the words that say what kind of task it is; the number is that of its work, if it has one
abbrev pub kind_words : Option ℕ → Plan → List (List ℕ)
kind_words number (Lines left) = codes "lines" ∷ []
kind_words number (Count next last) = codes "count" ∷ decimal last ∷ []
kind_words number Upper = codes "upper" ∷ []
kind_words number (Number next) = codes "number" ∷ []
kind_words number (Keep prefix) = codes "keep" ∷ prefix ∷ []
kind_words number (Drop prefix) = codes "drop" ∷ prefix ∷ []
kind_words number (Tally n) = codes "tally" ∷ []
kind_words number (Cat side) = codes "cat" ∷ []
kind_words number (Weave side ended) = codes "weave" ∷ []
kind_words number (Pin left on) = codes "pin" ∷ decimal left ∷ []
kind_words number (Table map last) = codes "custom" ∷ decimal (unwrap_or number 0) ∷ []

-- the name of the task of this number
abbrev pub name_of : List TaskDef → ℕ → List ℕ
name_of tasks number = get_or (names_of tasks) number []

-- the words that say which tasks it reads, by their names
abbrev pub source_words : List (List ℕ) → List (List ℕ)
source_words [] = []
source_words (name ∷ names) = codes "from" ∷ name ∷ names

-- the words of its line
abbrev pub task_words : List TaskDef → TaskDef → List (List ℕ)
task_words tasks d = codes "task" ∷ d.name ∷ (kind_words d.custom d.plan ++ source_words (map (name_of tasks) d.from))

-- a text: a bar, and where the text isn't empty a space and the text
abbrev pub spelled_text : List ℕ → List ℕ
spelled_text [] = codes "|"
spelled_text (byte ∷ bytes) = codes "| " ++ byte ∷ bytes

abbrev pub texts_in : Plan → List (List ℕ)
texts_in (Lines left) = left
texts_in _ = []

-- its lines: one of words, and one for each of its texts
abbrev pub spelled_task : List TaskDef → TaskDef → List (List ℕ)
spelled_task tasks d = spaced (task_words tasks d) ∷ map spelled_text (texts_in d.plan)

-- ---- a script

-- its lines: the machine, the tasks in their order, and the end
abbrev pub spelling : Script → List (List ℕ)
spelling s =
    spelled_setting (codes "cpus") s.shape.cpus ∷ spelled_setting (codes "caches") s.shape.caches
    ∷ spelled_setting (codes "room") s.room ∷ (flat_map (spelled_task s.tasks) s.tasks ++ codes "end" ∷ [])

-- lines, each with its line feed
abbrev pub text_of : List (List ℕ) → List ℕ
text_of lines = flat_map (λ line. line ++ 10 ∷ []) lines

-- the bytes of the script
abbrev pub spelled : Script → List ℕ
spelled s = text_of (spelling s)

-- each line and the whole are within the limits of a script
pub record IsWithin (s : Script) : Type 0 where
  pub lines : All (λ line. length line ≤ 4096) (spelling s)
  pub whole : length (spelled s) ≤ 16777216
