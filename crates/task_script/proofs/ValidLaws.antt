-- What each script is: its machine, its names, and its plans as they begin.
use Rattle.std.proofs.Common.{◌≡◌, ◌≢◌, ℕ, ◌+◌, ◌≤◌, Bool, true, false, cond, ◌&&◌, ◌||◌, List, [], ◌∷◌, ◌++◌, length, take, Option, Some, None, Result, Ok, Err, refl, sym, ap, subst, ◌∙◌, All, arith}
use Rattle.std.specs.Prelude.{IsTrue, unwrap_or, nat_le, ⊤}
use Rattle.std.specs.List.{list_any}
use Rattle.std.specs.Option.{is_none, is_some, option_map, option_to_list}
use Rattle.std.specs.Str.{bytes_eq}
use Rattle.std.proofs.lemmas.Bool.{and_parts, or_parts, not-false, leb-true}
use Rattle.std.proofs.lemmas.List.{append-nil, map-append}
use Rattle.std.proofs.lemmas.List.Elements.{All-nil, All-cons, All-push}
use Rattle.std.proofs.lemmas.List.Quantifiers.{all_pairs_push}
use Rattle.std.proofs.lemmas.Slice.Eq.{bytes_eq-Decides}
use Rattle.handoff_data.specs.Line.{IsLine}
use Rattle.task_script.specs.declared.reader.Source.{Source}
use Rattle.task_script.specs.declared.script.TaskDef.{TaskDef}
use Rattle.task_script.specs.declared.script.Script.{Script}
use Rattle.task_script.specs.declared.script.ScriptFault.{ScriptFault}
use Rattle.task_script.specs.Forms.{value_of, is_number, is_within, is_name, Kind, lines_kind, count_kind, upper_kind, number_kind, keep_kind, drop_kind, tally_kind, pin_kind, custom_kind, cat_kind}
use Rattle.task_script.specs.Forms.{weave_kind}
use Rattle.task_script.specs.Forms.{Form, skip_line, cpus_line, caches_line, room_line, task_line, text_line, end_line, form_of}
use Rattle.task_script.specs.Script.{shape_of, task_of, plan_of, number_of, has_tasks, has_bad_count, is_bad_group, custom_in, is_no_work, form_code, line_code, judged_lines, is_over, IsScript}
use Rattle.task_script.specs.Reading.{State, held, start, source_task, closed, opened, added, with_text, settled, next, fault_at, stepped, step, and_then, run, judged, verdict}
use Rattle.task_script.specs.Valid.{IsMachine, IsRoom, names_of, AreNames, IsText, Begins, AllBegin, AreCustoms}
use Rattle.task_script.proofs.FormLaws.{Each, lines_read, HasPrefixWord, HasWords, form_words, is_good}
use Rattle.task_script.proofs.NameLaws.{number-found}
use Rattle.task_script.proofs.WorkLaws.{HasWorks, no_works, same_works, closed_works, more_works, works_are}
use Rattle.task_script.proofs.ScriptLaws.{form_good, OnState, verdict_keeps, script_at_end, script_verdict, script_found, one_script, few_tasks}

-- ---- what the reader has read so far

-- a number that is given is one of these
abbrev Within : ℕ → ℕ → Option ℕ → Type 0
Within low high None = ⊤
Within low high (Some n) = (low ≤ n) × (n ≤ high)

abbrev Grouped : Option ℕ → Option ℕ → Type 0
Grouped cpus None = ⊤
Grouped None (Some g) = ⊥
Grouped (Some n) (Some g) = (1 ≤ g) × (g ≤ n)

abbrev open_names : Option Source → List (List ℕ)
open_names None = []
open_names (Some source) = source.name ∷ []

abbrev HasTexts : Option Source → Type 0
HasTexts None = ⊤
HasTexts (Some source) = All IsText source.texts

module _ (customs : ℕ) where
  record IsValid (s : State) : Type 0 where
    cpus : Within 1 16 s.cpus
    caches : Grouped s.cpus s.caches
    room : Within 1 64 s.room
    listed : names_of s.tasks ++ open_names s.source ≡ s.names
    names : AreNames s.names
    begin : AllBegin s.tasks
    texts : HasTexts s.source
    works : HasWorks customs s

  start_valid : IsValid (start customs)
  start_valid = record {
    cpus = tt;
    caches = tt;
    room = tt;
    listed = refl;
    names = record { named = All-nil (λ name. IsTrue (is_name name)); once = λ i j d l m. absurd (omega arith) };
    begin = All-nil (λ (d : TaskDef). Begins d.plan);
    texts = tt;
    works = no_works customs;
  }

  -- ---- a source that is closed

  listed_push : (tasks : List TaskDef) (d : TaskDef) → names_of (tasks ++ d ∷ []) ≡ names_of tasks ++ d.name ∷ []
  listed_push tasks d = map-append (λ (e : TaskDef). e.name) tasks (d ∷ [])

  closed_listed : (tasks : List TaskDef) (o : Option Source) → names_of (tasks ++ option_to_list (option_map source_task o)) ++ [] ≡ names_of tasks ++ open_names o
  closed_listed tasks None = ap (λ (ts : List TaskDef). names_of ts ++ []) (append-nil tasks)
  closed_listed tasks (Some source) = append-nil (names_of (tasks ++ source_task source ∷ [])) ∙ listed_push tasks (source_task source)

  closed_begin : (tasks : List TaskDef) (o : Option Source) → AllBegin tasks → HasTexts o → AllBegin (tasks ++ option_to_list (option_map source_task o))
  closed_begin tasks None h texts = subst (λ (ts : List TaskDef). AllBegin ts) (sym (append-nil tasks)) h
  closed_begin tasks (Some source) h texts = All-push (λ (d : TaskDef). Begins d.plan) tasks (source_task source) h texts

  closed_valid : (s : State) → IsValid s → IsValid (closed s)
  closed_valid s v = record {
    cpus = v.cpus;
    caches = v.caches;
    room = v.room;
    listed = closed_listed s.tasks s.source ∙ v.listed;
    names = v.names;
    begin = closed_begin s.tasks s.source v.begin v.texts;
    texts = tt;
    works = closed_works customs s v.works;
  }

  -- ---- numbers

  within_parts : (low high : ℕ) (number : List ℕ) → is_within low high number ≡ true → (low ≤ value_of number) × (value_of number ≤ high)
  within_parts low high number e =
      let parts = and_parts (is_number number && nat_le low (value_of number)) (nat_le (value_of number) high) e in
      (leb-true low (value_of number) (and_parts (is_number number) (nat_le low (value_of number)) parts.0).1, leb-true (value_of number) high parts.1)

  ungrouped : (cpus caches : Option ℕ) (n : ℕ) → is_some cpus ≡ false → Grouped cpus caches → Grouped (Some n) caches
  ungrouped cpus None n e h = tt
  ungrouped None (Some g) n e h = absurd h
  ungrouped (Some m) (Some g) n e h = absurd cc

  grouped : (cpus : Option ℕ) (number : List ℕ) → is_bad_group cpus number ≡ false → is_none cpus ≡ false → Grouped cpus (Some (value_of number))
  grouped None number bad none = absurd cc
  grouped (Some n) number bad none = within_parts 1 n number (not-false _ bad)

  -- ---- a task

  others : (name : List ℕ) (names : List (List ℕ)) → list_any (λ other. bytes_eq other name) names ≡ false → All (λ other. other ≢ name) names
  others name [] e = All-nil (λ other. other ≢ name)
  others name (x ∷ names) e =
      let parts = or_parts (bytes_eq x name) (list_any (λ other. bytes_eq other name) names) e in
      All-cons (λ other. other ≢ name) x names (λ same. let equal : bytes_eq x name ≡ true = (bytes_eq-Decides x name).1 same in absurd cc) (others name names parts.1)

  names_push : (names : List (List ℕ)) (name : List ℕ) → AreNames names → is_name name ≡ true → is_some (number_of names name) ≡ false → AreNames (names ++ name ∷ [])
  names_push names name are is fresh =
      let apart = others name names (sym (number-found names name) ∙ fresh) in
      record {
        named = All-push (λ n. IsTrue (is_name n)) names name are.named is;
        once = all_pairs_push (λ a b. a ≢ b) names name are.once apart;
      }

  plan_begins : (kind : Kind) → has_bad_count kind ≡ false → HasPrefixWord kind → Begins (plan_of kind [])
  plan_begins lines_kind good word = All-nil IsText
  plan_begins (count_kind number) good word = (refl, (within_parts 0 1000000 number (not-false _ good)).1)
  plan_begins (upper_kind source) good word = tt
  plan_begins (number_kind source) good word = refl
  plan_begins (keep_kind prefix source) good word = word
  plan_begins (drop_kind prefix source) good word = word
  plan_begins (tally_kind source) good word = refl
  plan_begins (pin_kind number source) good word = let n = within_parts 1 1000000 number (not-false _ good) in (n.0, n.1, refl)
  plan_begins (custom_kind number source) good word = (refl, refl)
  plan_begins (cat_kind first second) good word = refl
  plan_begins (weave_kind first second) good word = (refl, refl)

  -- what a task adds to the tasks, and the source that it opens
  record Adds (tasks : List TaskDef) (names : List (List ℕ)) (name : List ℕ) (kind : Kind) : Type 0 where
    listed : names_of (tasks ++ added names name kind) ++ open_names (opened name kind) ≡ names_of tasks ++ name ∷ []
    begin : AllBegin (tasks ++ added names name kind)
    texts : HasTexts (opened name kind)

  module _ (tasks : List TaskDef) (names : List (List ℕ)) (name : List ℕ) (h : AllBegin tasks) where
    adds_source : Adds tasks names name lines_kind
    adds_source = record {
      listed = ap (λ (ts : List TaskDef). names_of ts ++ name ∷ []) (append-nil tasks);
      begin = subst (λ (ts : List TaskDef). AllBegin ts) (sym (append-nil tasks)) h;
      texts = All-nil IsText;
    }

    task_listed : (kind : Kind) → names_of (tasks ++ task_of names name kind [] ∷ []) ++ [] ≡ names_of tasks ++ name ∷ []
    task_listed kind = append-nil (names_of (tasks ++ task_of names name kind [] ∷ [])) ∙ listed_push tasks (task_of names name kind [])

    task_begin : (kind : Kind) → Begins (plan_of kind []) → AllBegin (tasks ++ task_of names name kind [] ∷ [])
    task_begin kind begins = All-push (λ (d : TaskDef). Begins d.plan) tasks (task_of names name kind []) h begins

    adds : (kind : Kind) → Begins (plan_of kind []) → Adds tasks names name kind
    adds lines_kind b = adds_source
    adds (count_kind n) b = record { listed = task_listed (count_kind n); begin = task_begin (count_kind n) b; texts = tt }
    adds (upper_kind a) b = record { listed = task_listed (upper_kind a); begin = task_begin (upper_kind a) b; texts = tt }
    adds (number_kind a) b = record { listed = task_listed (number_kind a); begin = task_begin (number_kind a) b; texts = tt }
    adds (keep_kind p a) b = record { listed = task_listed (keep_kind p a); begin = task_begin (keep_kind p a) b; texts = tt }
    adds (drop_kind p a) b = record { listed = task_listed (drop_kind p a); begin = task_begin (drop_kind p a) b; texts = tt }
    adds (tally_kind a) b = record { listed = task_listed (tally_kind a); begin = task_begin (tally_kind a) b; texts = tt }
    adds (pin_kind n a) b = record { listed = task_listed (pin_kind n a); begin = task_begin (pin_kind n a) b; texts = tt }
    adds (custom_kind n a) b = record { listed = task_listed (custom_kind n a); begin = task_begin (custom_kind n a) b; texts = tt }
    adds (cat_kind f g) b = record { listed = task_listed (cat_kind f g); begin = task_begin (cat_kind f g) b; texts = tt }
    adds (weave_kind f g) b = record { listed = task_listed (weave_kind f g); begin = task_begin (weave_kind f g) b; texts = tt }

  task_valid : (t : State) (name : List ℕ) (kind : Kind) → IsValid t → t.source ≡ None → is_name name ≡ true → is_some (number_of t.names name) ≡ false
      → Begins (plan_of kind []) → has_bad_count kind ≡ false → is_no_work (held t) (custom_in kind) ≡ false → IsValid (settled t (task_line name kind))
  task_valid t name kind v none is fresh begins good work =
      let more = adds t.tasks t.names name v.begin kind begins in
      let before : names_of t.tasks ≡ t.names = sym (append-nil (names_of t.tasks)) ∙ ap (λ (o : Option Source). names_of t.tasks ++ open_names o) (sym none) ∙ v.listed in
      record {
        cpus = v.cpus;
        caches = v.caches;
        room = v.room;
        listed = more.listed ∙ ap (λ (ns : List (List ℕ)). ns ++ name ∷ []) before;
        names = names_push t.names name v.names is fresh;
        begin = more.begin;
        texts = more.texts;
        works = more_works customs t name kind v.works good work;
      }

  -- ---- a text

  same_open : (o : Option Source) (text : List ℕ) → open_names (with_text o text) ≡ open_names o
  same_open None text = refl
  same_open (Some source) text = refl

  more_texts : (o : Option Source) (text : List ℕ) → HasTexts o → IsText text → HasTexts (with_text o text)
  more_texts None text h is = tt
  more_texts (Some source) text h is = All-push IsText source.texts text h is

  -- ---- a line

  next_valid : (s : State) (form : Form) → form_code (held s) (Some form) ≡ None → HasWords form → IsValid s → IsValid (next s form)
  next_valid s skip_line e w v = v
  next_valid s (cpus_line number) e w v =
      let good = is_good (held s) (cpus_line number) e in
      let c = closed_valid s v in
      record {
        cpus = within_parts 1 16 number (not-false _ good.numbers);
        caches = ungrouped s.cpus s.caches (value_of number) good.ordered v.caches;
        room = c.room;
        listed = c.listed;
        names = c.names;
        begin = c.begin;
        texts = tt;
        works = same_works customs (closed s) (next s (cpus_line number)) refl refl refl c.works;
      }
  next_valid s (caches_line number) e w v =
      let good = is_good (held s) (caches_line number) e in
      let c = closed_valid s v in
      let first = (or_parts (is_none s.cpus) (is_some s.caches) (or_parts (is_none s.cpus || is_some s.caches) (has_tasks s.names) good.ordered).0).0 in
      record {
        cpus = c.cpus;
        caches = grouped s.cpus number good.numbers first;
        room = c.room;
        listed = c.listed;
        names = c.names;
        begin = c.begin;
        texts = tt;
        works = same_works customs (closed s)
            (next s (caches_line number)) refl refl refl c.works;
      }
  next_valid s (room_line number) e w v =
      let good = is_good (held s) (room_line number) e in
      let c = closed_valid s v in
      record {
        cpus = c.cpus;
        caches = c.caches;
        room = within_parts 1 64 number (not-false _ good.numbers);
        listed = c.listed;
        names = c.names;
        begin = c.begin;
        texts = tt;
        works = same_works
            customs (closed s) (next s (room_line number)) refl refl refl c.works;
      }
  next_valid s (task_line name kind) e w v =
      let good = is_good (held s) (task_line name kind) e in
      task_valid (closed s) name kind (closed_valid s v) refl (not-false _ good.named) good.fresh (plan_begins kind good.numbers w.1) good.numbers good.work
  next_valid s (text_line text) e w v = record {
    cpus = v.cpus;
    caches = v.caches;
    room = v.room;
    listed = ap (λ (ns : List (List ℕ)). names_of s.tasks ++ ns) (same_open s.source text) ∙ v.listed;
    names = v.names;
    begin = v.begin;
    texts = more_texts s.source text v.texts w;
    works = same_works customs s (next s (text_line text)) refl refl refl v.works;
  }
  next_valid s end_line e w v =
      let c = closed_valid s v in
      record {
        cpus = c.cpus;
        caches = c.caches;
        room = c.room;
        listed = c.listed;
        names = c.names;
        begin = c.begin;
        texts = tt;
        works = same_works customs (closed s) (next s end_line) refl refl
            refl c.works;
      }

  stepped_valid : (number : ℕ) (s : State) (line : List ℕ) → IsLine line → IsValid s → (code : Option ℕ) (form : Option Form) → line_code (held s) line ≡ code → form_of line ≡ form
      → OnState IsValid (stepped number s code form)
  stepped_valid number s line is v (Some code) form e f = tt
  stepped_valid number s line is v None None e f = v
  stepped_valid number s line is v None (Some form) e f = next_valid s form (form_good (held s) line form f e) (form_words line form is f) v

  step_valid : (number : ℕ) (s : State) (line : List ℕ) → IsLine line → IsValid s → OnState IsValid (step number s line)
  unfolding step
  step_valid number s line is v = stepped_valid number s line is v (line_code (held s) line) (form_of line) refl refl

  -- ---- all lines

  then_valid : (r : Result State ScriptFault) (more : State → Result State ScriptFault) → OnState IsValid r → ((t : State) → IsValid t → OnState IsValid (more t)) → OnState IsValid (and_then r more)
  then_valid (Err fault) more v again = tt
  then_valid (Ok t) more v again = again t v

  run_valid : (number : ℕ) (s : State) → IsValid s → (lines : List (List ℕ)) → Each IsLine lines → OnState IsValid (run number s lines)
  run_valid number s v [] is = v
  run_valid number s v (line ∷ lines) is =
      then_valid (step number s line) (λ t. run (number + 1) t lines) (step_valid number s line is.0 v) (λ t g. run_valid (number + 1) t g lines is.1)

  -- a faultless reader behind `end`
  record HasEnded (s : State) : Type 0 where
    valid : IsValid s
    ended : s.ended ≡ true

  ended_valid : (b : Bool) (t : State) (fault : ScriptFault) → t.ended ≡ b → IsValid t → OnState HasEnded (cond b (Ok t) (Err fault))
  ended_valid true t fault e v = record { valid = v; ended = e }
  ended_valid false t fault e v = tt

  judged_valid : (over : Bool) (lines : ℕ) (r : Result State ScriptFault) → OnState IsValid r → OnState HasEnded (judged over lines r)
  judged_valid over lines (Err fault) v = tt
  judged_valid true lines (Ok t) v = tt
  judged_valid false lines (Ok t) v = ended_valid t.ended t (fault_at (lines + 1) 11) refl v

  verdict_valid : (bytes : List ℕ) (s : State) → verdict customs bytes ≡ Ok s → HasEnded s
  unfolding verdict
  verdict_valid bytes s e =
      let lines = judged_lines bytes in
      let valid = run_valid 1 (start customs) start_valid lines (lines_read (take 16777217 bytes)) in
      subst (OnState HasEnded) e (judged_valid (is_over bytes) (length lines) (run 1 (start customs) lines) valid)

  -- ---- scripts

  -- the script of a reader that has read it
  record FromReader (script : Script) : Type 0 where
    state : State
    valid : IsValid state
    closed : state.source ≡ None
    few : length state.tasks ≤ 200
    is : script ≡ script_at_end state

  from_reader : (bytes : List ℕ) (script : Script) → IsScript customs bytes script → FromReader script
  unfolding script_at_end
  from_reader bytes script is =
      let read = script_verdict customs bytes script is in
      let v = verdict_valid bytes read.0 read.1 in
      let keeps = verdict_keeps customs bytes read.0 read.1 in
      let found = script_found customs bytes read.0 (script_at_end read.0) read.1 (refl, refl, refl) in
      record {
        state = read.0;
        valid = v.valid;
        closed = keeps.closed v.ended;
        few = few_tasks customs bytes read.0 read.1;
        is = one_script customs customs bytes (script_at_end read.0) script found
            is;
      }

  some_cpus : (cpus : Option ℕ) → Within 1 16 cpus → (1 ≤ unwrap_or cpus 1) × (unwrap_or cpus 1 ≤ 16)
  some_cpus None h = (omega arith, omega arith)
  some_cpus (Some n) h = h

  some_caches : (cpus caches : Option ℕ) → Within 1 16 cpus → Grouped cpus caches → (1 ≤ unwrap_or caches (unwrap_or cpus 1)) × (unwrap_or caches (unwrap_or cpus 1) ≤ unwrap_or cpus 1)
  some_caches cpus None h g = ((some_cpus cpus h).0, omega arith)
  some_caches None (Some n) h g = absurd g
  some_caches (Some m) (Some n) h g = g

  some_room : (room : Option ℕ) → Within 1 64 room → IsRoom (unwrap_or room 4)
  some_room None h = (omega arith, omega arith)
  some_room (Some n) h = h

  machine_at : (cpus caches : Option ℕ) (tasks : List TaskDef) → Within 1 16 cpus → Grouped cpus caches → length tasks ≤ 200 → IsMachine (shape_of (unwrap_or cpus 1) caches (length tasks)) tasks
  machine_at cpus caches tasks within group few =
      let c = some_cpus cpus within in
      let g = some_caches cpus caches within group in
      record {
        valid = record { some_cpu = c.0; few_cpus = c.1; some_cache = g.0; few_caches = g.1; few_tasks = few; few_conds = omega arith; few_agents = omega arith };
        counted = refl;
        conds = refl;
        agents = refl;
      }

  pub script_machine : (bytes : List ℕ) (s : Script) → IsScript customs bytes s → IsMachine s.shape s.tasks
  unfolding script_at_end
  script_machine bytes s is =
      let f = from_reader bytes s is in
      subst (λ (t : Script). IsMachine t.shape t.tasks) (sym f.is) (machine_at f.state.cpus f.state.caches f.state.tasks f.valid.cpus f.valid.caches f.few)

  pub script_room : (bytes : List ℕ) (s : Script) → IsScript customs bytes s → IsRoom s.room
  unfolding script_at_end
  script_room bytes s is = let f = from_reader bytes s is in subst (λ (t : Script). IsRoom t.room) (sym f.is) (some_room f.state.room f.valid.room)

  pub script_names : (bytes : List ℕ) (s : Script) → IsScript customs bytes s → AreNames (names_of s.tasks)
  unfolding script_at_end
  script_names bytes s is =
      let f = from_reader bytes s is in
      let names : names_of f.state.tasks ≡ f.state.names =
      sym (append-nil (names_of f.state.tasks)) ∙ ap (λ (o : Option Source). names_of f.state.tasks ++ open_names o) (sym f.closed) ∙ f.valid.listed in
      subst (λ (t : Script). AreNames (names_of t.tasks)) (sym f.is) (subst AreNames (sym names) f.valid.names)

  pub script_plans : (bytes : List ℕ) (s : Script) → IsScript customs bytes s → AllBegin s.tasks
  unfolding script_at_end
  script_plans bytes s is = let f = from_reader bytes s is in subst (λ (t : Script). AllBegin t.tasks) (sym f.is) f.valid.begin

  pub script_customs : (bytes : List ℕ) (s : Script) → IsScript customs bytes s → AreCustoms customs s.tasks
  unfolding script_at_end
  script_customs bytes s is = let f = from_reader bytes s is in subst (λ (t : Script). AreCustoms customs t.tasks) (sym f.is) (works_are customs f.state f.valid.works)
