-- A script that is spelled is read.
use Rattle.std.proofs.Common.{◌≡◌, ◌≢◌, ℕ, suc, ◌<◌, ◌≤◌, ◌^◌, false, not, List, [], ◌∷◌, ◌++◌, length, map, Option, Some, None, refl, sym, ap, subst, ◌∙◌, append_assoc, arith}
use Rattle.std.specs.Fmt.{decimal as digits_of}
use Rattle.std.specs.Prelude.{codes, unwrap_or}
use Rattle.std.specs.List.{All, AllByRecursion, filter_map, flat_map, last_or}
use Rattle.std.proofs.lemmas.Bool.{ne_eqb}
use Rattle.std.proofs.lemmas.List.Elements.{All-nil, All-cons, recursion_from_All}
use Rattle.handoff_data.specs.Line.{IsLine}
use Rattle.task_script.specs.declared.script.TaskDef.{TaskDef}
use Rattle.task_script.specs.declared.script.Script.{Script}
use Rattle.task_script.specs.Forest.{IsForest}
use Rattle.task_script.specs.Lines.{input_lines}
use Rattle.task_script.specs.Forms.{Form, cpus_line, caches_line, room_line, is_within}
use Rattle.task_script.specs.Script.{given, cpus_in, caches_in, room_in, shape_of, script_of, so_far, AreFaultless, IsScript}
use Rattle.task_script.specs.Valid.{IsText, IsWord, IsMachine, IsRoom, AreNames, names_of, AllBegin, AreCustoms}
use Rattle.script_writer.specs.Spelling.{spaced, spelled_setting, kind_words, source_words, task_words, spelled_text, spelled_task, texts_in, text_of, spelling, spelled, IsWithin}
use Rattle.script_writer.proofs.WordLaws.{spaced_line}
use Rattle.script_writer.proofs.NumberLaws.{number_word, plain_word, value_back, within_back}
use Rattle.script_writer.proofs.LineBack.{cpus_back, caches_back, room_back, task_word, task_are_words}
use Rattle.script_writer.proofs.TaskBack.{AreTasks, sources, stands_at, forms_from, tasks_back, none_set, ends}
use Rattle.script_writer.proofs.Faultless.{IsShort, IsGood, good_line, at_tasks, are_texts, lines_from, tasks_faultless}

-- ---- lines of a text

-- the first line ends at the first line feed
line_ends : (line bytes : List ℕ) → IsLine line → input_lines (line ++ 10 ∷ bytes) ≡ line ∷ input_lines bytes
line_ends [] bytes none = refl
line_ends (byte ∷ line) bytes none =
    rw (ne_eqb byte 10 (none 0 0 (omega arith)), line_ends line bytes (λ k d lt. none (suc k) d (omega arith))) refl

lines_back : (lines : List (List ℕ)) → AllByRecursion IsLine lines → input_lines (text_of lines) ≡ lines
lines_back [] h = refl
lines_back (line ∷ lines) h =
    ap input_lines (append_assoc line (10 ∷ []) (text_of lines)) ∙ line_ends line (text_of lines) h.0
    ∙ ap (λ (ls : List (List ℕ)). line ∷ ls) (lines_back lines h.1)

lines_append : (xs ys : List (List ℕ)) → AllByRecursion IsLine xs → AllByRecursion IsLine ys → AllByRecursion IsLine (xs ++ ys)
lines_append [] ys a b = b
lines_append (x ∷ xs) ys a b = (a.0, lines_append xs ys a.1 b)

text_is_line : (text : List ℕ) → IsText text → IsLine (spelled_text text)
text_is_line [] t = All-cons (λ b. b ≢ 10) 124 [] (λ e. omega arith) (All-nil (λ b. b ≢ 10))
text_is_line (byte ∷ bytes) t =
    All-cons (λ b. b ≢ 10) 124 (32 ∷ byte ∷ bytes) (λ e. omega arith) (All-cons (λ b. b ≢ 10) 32 (byte ∷ bytes) (λ e. omega arith) t.line)

texts_are_lines : (texts : List (List ℕ)) → All IsText texts → AllByRecursion IsLine (map spelled_text texts)
texts_are_lines [] h = tt
texts_are_lines (text ∷ texts) h = (text_is_line text (h 0 text (omega arith)), texts_are_lines texts (λ k d lt. h (suc k) d (omega arith)))

end_is_line : IsLine (codes "end")
end_is_line = spaced_line (codes "end") [] (plain_word (codes "end") (omega arith) refl) tt

tasks_are_lines : (customs : ℕ) (tasks : List TaskDef) → AreTasks customs tasks → (done more : List TaskDef) → done ++ more ≡ tasks → AllByRecursion IsLine (lines_from tasks more)
tasks_are_lines customs tasks are done [] e = (end_is_line, tt)
tasks_are_lines customs tasks are done (d ∷ more) e =
    let stands = stands_at customs tasks done d more e are in (
      spaced_line (codes "task") (d.name ∷ (kind_words d.custom d.plan ++ source_words (sources tasks d))) task_word (task_are_words d.name d.custom d.plan (sources tasks d) stands.named stands.low
          stands.begins stands.known),
      lines_append (map spelled_text (texts_in d.plan)) (lines_from tasks more) (texts_are_lines (texts_in d.plan) (are_texts d.plan stands.begins))
          (tasks_are_lines customs tasks are (done ++ d ∷ []) more (append_assoc done (d ∷ []) more ∙ e)),
    )

-- the tasks' lines and the end, as they are spelled
lines_are : (tasks more : List TaskDef) → flat_map (spelled_task tasks) more ++ codes "end" ∷ [] ≡ lines_from tasks more
lines_are tasks [] = refl
lines_are tasks (d ∷ more) =
    ap (λ (ls : List (List ℕ)). spaced (task_words tasks d) ∷ ls)
    (append_assoc (map spelled_text (texts_in d.plan)) (flat_map (spelled_task tasks) more) (codes "end" ∷ [])
    ∙ ap (λ (ls : List (List ℕ)). map spelled_text (texts_in d.plan) ++ ls) (lines_are tasks more))

-- ---- the machine

-- all lines, and their forms
abbrev all_lines : ℕ → ℕ → ℕ → List TaskDef → List (List ℕ)
all_lines c g r tasks =
    spelled_setting (codes "cpus") c ∷ spelled_setting (codes "caches") g ∷ spelled_setting (codes "room") r ∷ lines_from tasks tasks

abbrev all_forms : ℕ → ℕ → ℕ → List TaskDef → List Form
all_forms c g r tasks = cpus_line (digits_of c) ∷ caches_line (digits_of g) ∷ room_line (digits_of r) ∷ forms_from tasks tasks

module _ (c g r customs : ℕ) (tasks : List TaskDef) (low_c : 1 ≤ c) (high_c : c ≤ 16) (low_g : 1 ≤ g) (high_g : g ≤ c) (low_r : 1 ≤ r) (high_r : r ≤ 64) (are : AreTasks customs tasks) where
  abbrev lines : List (List ℕ)
  lines = all_lines c g r tasks

  abbrev forms : List Form
  forms = all_forms c g r tasks

  cpus_good : IsGood (so_far customs []) (cpus_line (digits_of c))
  cpus_good = record {
    numbers = ap not (within_back 1 16 c low_c high_c (omega arith));
    named = refl;
    fresh = refl;
    found = refl;
    unread = refl;
    few = refl;
    ordered = refl;
    brought = refl;
    behind = refl;
  }

  caches_good : IsGood (so_far customs (cpus_line (digits_of c) ∷ [])) (caches_line (digits_of g))
  caches_good = record {
    numbers = ap (λ (n : ℕ). not (is_within 1 n (digits_of g))) (value_back c (omega arith)) ∙ ap not (within_back 1 c g low_g high_g (omega arith));
    named = refl;
    fresh = refl;
    found = refl;
    unread = refl;
    few = refl;
    ordered = refl;
    brought = refl;
    behind = refl;
  }

  room_good : IsGood (so_far customs (cpus_line (digits_of c) ∷ caches_line (digits_of g) ∷ [])) (room_line (digits_of r))
  room_good = record {
    numbers = ap not (within_back 1 64 r low_r high_r (omega arith));
    named = refl;
    fresh = refl;
    found = refl;
    unread = refl;
    few = refl;
    ordered = refl;
    brought = refl;
    behind = refl;
  }

  abbrev machine : List Form
  machine = cpus_line (digits_of c) ∷ caches_line (digits_of g) ∷ room_line (digits_of r) ∷ []

  machine_at : so_far customs machine ≡ at_tasks c g r customs [] [] [] false
  machine_at =
      let cpus = value_back c (omega arith) in
      let caches = value_back g (omega arith) in
      let room = value_back r (omega arith) in
      λ i. at_tasks (cpus i) (caches i) (room i) customs [] [] [] false

  all_faultless : AllByRecursion IsShort lines → AreFaultless customs [] lines forms
  all_faultless short =
      let cpus = cpus_line (digits_of c) in
      let caches = caches_line (digits_of g) in
      let room = room_line (digits_of r) in (
        good_line customs [] (so_far customs []) (spelled_setting (codes "cpus") c) cpus refl (cpus_back c (omega arith)) short.0 refl cpus_good,
        (
          good_line customs (cpus ∷ []) (so_far customs (cpus ∷ [])) (spelled_setting (codes "caches") g) caches refl (caches_back g (omega arith)) short.1.0 refl caches_good,
          (
            good_line customs (cpus ∷ caches ∷ []) (so_far customs (cpus ∷ caches ∷ [])) (spelled_setting (codes "room") r) room refl (room_back r (omega arith)) short.1.1.0 refl room_good,
            tasks_faultless c g r customs tasks are [] tasks refl machine false machine_at short.1.1.1,
          ),
        ),
      )

  setting_line : (word : List ℕ) (n : ℕ) → IsWord word → n < 2 ^ 64 → IsLine (spelled_setting word n)
  setting_line word n w small = spaced_line word (digits_of n ∷ []) w (number_word n small, tt)

  lines_are_lines : AllByRecursion IsLine lines
  lines_are_lines = (
    setting_line (codes "cpus") c (plain_word (codes "cpus") (omega arith) refl) (omega arith),
    (
      setting_line (codes "caches") g (plain_word (codes "caches") (omega arith) refl) (omega arith),
      (setting_line (codes "room") r (plain_word (codes "room") (omega arith) refl) (omega arith), tasks_are_lines customs tasks are [] tasks refl),
    ),
  )

  -- what the lines say of the machine
  one_given : (number : Form → Option ℕ) (n : ℕ) → filter_map number forms ≡ n ∷ [] → given number forms ≡ Some n
  one_given number n e = ap (last_or None) e

  cpus_given : given cpus_in forms ≡ Some c
  cpus_given = one_given cpus_in c
      ((λ i. value_back c (omega arith) i ∷ none_set cpus_in ((λ name custom plan names. refl), (λ text. refl), refl) tasks tasks i))

  caches_given : given caches_in forms ≡ Some g
  caches_given = one_given caches_in g
      ((λ i. value_back g (omega arith) i ∷ none_set caches_in ((λ name custom plan names. refl), (λ text. refl), refl) tasks tasks i))

  room_given : given room_in forms ≡ Some r
  room_given = one_given room_in r
      ((λ i. value_back r (omega arith) i ∷ none_set room_in ((λ name custom plan names. refl), (λ text. refl), refl) tasks tasks i))

  script_back : script_of forms ≡ record { shape = shape_of c (Some g) (length tasks); room = r; tasks = tasks }
  script_back =
      let said = tasks_back customs tasks [] tasks refl are in
      λ i. record {
        shape = shape_of (unwrap_or (cpus_given i) 1) (caches_given i) (length (said i));
        room = unwrap_or (room_given i) 4;
        tasks = said i;
      }

-- ---- the law

same_script : (s : Script) → IsMachine s.shape s.tasks → record { shape = shape_of s.shape.cpus (Some s.shape.caches) (length s.tasks); room = s.room; tasks = s.tasks } ≡ s
same_script s m =
    let tasks = sym m.counted in
    let conds = sym m.conds in
    let agents = sym m.agents in
    λ i. record { shape = record { cpus = s.shape.cpus; caches = s.shape.caches; tasks = tasks i; conds = conds i; agents = agents i }; room = s.room; tasks = s.tasks }

pub spelled_is_script : (customs : ℕ) (s : Script) → IsMachine s.shape s.tasks → IsRoom s.room → IsForest s.tasks → AreNames (names_of s.tasks) → AllBegin s.tasks → AreCustoms customs s.tasks
    → IsWithin s → IsScript customs (spelled s) s
spelled_is_script customs s m room forest names begin works within =
    let valid = m.valid in
    let counted = m.counted in
    let few = valid.few_tasks in
    let are : AreTasks customs s.tasks = record { forest = forest; names = names; begin = begin; few = omega arith; works = works } in
    let lines = all_lines s.shape.cpus s.shape.caches s.room s.tasks in
    let forms = all_forms s.shape.cpus s.shape.caches s.room s.tasks in
    let spelt : spelling s ≡ lines =
    ap (λ (ls : List (List ℕ)). spelled_setting (codes "cpus") s.shape.cpus ∷ spelled_setting (codes "caches") s.shape.caches ∷ spelled_setting (codes "room") s.room ∷ ls)
    (lines_are s.tasks s.tasks) in
    let read : input_lines (spelled s) ≡ lines =
    ap (λ (ls : List (List ℕ)). input_lines (text_of ls)) spelt
    ∙ lines_back lines
    (lines_are_lines s.shape.cpus s.shape.caches s.room customs s.tasks valid.some_cpu valid.few_cpus valid.some_cache valid.few_caches room.0 room.1 are) in
    let short = recursion_from_All IsShort lines (subst (All IsShort) spelt within.lines) in
    let faultless = all_faultless s.shape.cpus s.shape.caches s.room customs s.tasks valid.some_cpu valid.few_cpus valid.some_cache valid.few_caches room.0 room.1 are short in
    let back = script_back s.shape.cpus s.shape.caches s.room customs s.tasks valid.some_cpu valid.few_cpus valid.some_cache valid.few_caches room.0 room.1 are in
    record {
      within = within.whole;
      forms = forms;
      faultless = subst (λ (ls : List (List ℕ)). AreFaultless customs [] ls forms) (sym read) faultless;
      ended = ends s.tasks s.tasks;
      says = sym (same_script s m) ∙ sym back;
    }

-- scripts that their spellings are, where bytes are at most one script
module _ (one : (customs others : ℕ) (bytes : List ℕ) (s t : Script) → IsScript customs bytes s → IsScript others bytes t → t ≡ s) where
  pub only_script : (customs : ℕ) (s t : Script) → IsScript customs (spelled s) s → IsScript customs (spelled s) t → t ≡ s
  only_script customs s t back read = one customs customs (spelled s) s t back read

  pub one_spelling : (customs others : ℕ) (s t : Script) → IsScript customs (spelled s) s → IsScript others (spelled t) t → spelled s ≡ spelled t → s ≡ t
  one_spelling customs others s t back other same = one others customs (spelled t) t s other (subst (λ (bytes : List ℕ). IsScript customs bytes s) same back)
