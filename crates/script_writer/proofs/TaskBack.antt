-- What each task of a script is where it stands, and what its line says of it.
use Rattle.std.proofs.Common.{◌≡◌, ◌≢◌, ℕ, suc, ◌<◌, ◌≤◌, ◌^◌, ◌==◌, Bool, true, false, ◌||◌, List, [], ◌∷◌, ◌++◌, length, map, get_or, Option, Some, None, refl, sym, ap, subst, ◌∙◌}
use Rattle.std.specs.Fmt.{decimal as digits_of}
use Rattle.std.specs.Prelude.{unwrap_or, nat_le}
use Rattle.std.specs.Option.{is_some}
use Rattle.std.proofs.lemmas.Bool.{ne_eqb, lt-leb, or_from}
use Rattle.std.proofs.Common.{All, append_assoc, arith}
use Rattle.std.specs.List.{filter_map, cons_option, list_any}
use Rattle.std.proofs.lemmas.Grind.{flat_map-append}
use Rattle.std.proofs.lemmas.List.{get_or_append_left, length-append, length-map, map-append}
use Rattle.std.proofs.lemmas.List.Elements.{All-append, All-nil, filter_map-append}
use Rattle.std.proofs.Math.Seq.{get_or-append_seam}
use Rattle.task_script.specs.declared.plan.Plan.{Plan}
use Rattle.task_script.specs.declared.plan.Plan.TheVariants.{Lines, Count, Upper, Number, Keep, Drop, Tally, Cat, Weave, Pin, Table}
use Rattle.task_script.specs.declared.script.TaskDef.{TaskDef}
use Rattle.task_script.specs.Plan.{sides, is_table}
use Rattle.task_script.specs.Forest.{IsForest, reads as read_tasks}
use Rattle.task_script.specs.Forms.{is_name, value_of, Form, task_line, text_line, end_line}
use Rattle.task_script.specs.Script.{number_of, reads_again, texts_of, plan_of, custom_in, task_of, tasks_of, is_end}
use Rattle.task_script.specs.Valid.{AreNames, names_of, Begins, AllBegin, works_of, AreCustoms}
use Rattle.script_writer.specs.Spelling.{name_of, texts_in}
use Rattle.script_writer.proofs.NumberLaws.{value_back}
use Rattle.script_writer.proofs.LineBack.{IsLow, said_kind, reads_back, AllNamed}
use Rattle.script_writer.proofs.NameBack.{Apart, apart_front, apart_seam, apart_back, number_at, number_none, none_again}

-- ---- a task where it stands

-- what the tasks of a script are
pub record AreTasks (customs : ℕ) (tasks : List TaskDef) : Type 0 where
  pub forest : IsForest tasks
  pub names : AreNames (names_of tasks)
  pub begin : AllBegin tasks
  pub few : length tasks ≤ 200
  pub works : AreCustoms customs tasks

-- the names of the tasks that a task reads
abbrev pub sources : List TaskDef → TaskDef → List (List ℕ)
sources tasks d = map (name_of tasks) d.from

-- the number isn't below the number of works, or a task has it
abbrev pub no_work : ℕ → List ℕ → Option ℕ → Bool
no_work customs works None = false
no_work customs works (Some number) = nat_le customs number || list_any (λ other. other == number) works

-- what a task is among these tasks, with these before it
pub record Stands (customs : ℕ) (tasks done : List TaskDef) (d : TaskDef) : Type 0 where
  pub named : is_name d.name ≡ true
  pub begins : Begins d.plan
  pub inputs : length (sources tasks d) ≡ sides d.plan
  pub fresh : number_of (names_of done) d.name ≡ None
  pub found : All (λ k. number_of (names_of done) (name_of tasks k) ≡ Some k) d.from
  pub known : AllNamed (sources tasks d)
  pub unread : reads_again (map (name_of tasks) (read_tasks done)) (sources tasks d) ≡ false
  pub few : length done < 200
  pub low : IsLow d.custom
  pub fits : is_some d.custom ≡ is_table d.plan
  pub brought : no_work customs (works_of done) d.custom ≡ false

All-seam : {X : Type 0} (P : X → Type 0) (xs : List X) (y : X) (ys : List X) → All P (xs ++ y ∷ ys) → P y
All-seam P xs y ys h = subst P (get_or-append_seam xs y ys y) (h (length xs) y (omega (arith, length-append xs (y ∷ ys))))

All-front : {X : Type 0} (P : X → Type 0) (xs ys : List X) → All P (xs ++ ys) → All P xs
All-front P xs ys h k d lt = subst P (get_or_append_left xs ys d k lt) (h k d (omega (arith, length-append xs ys)))

all_reads : (n : ℕ) (tasks : List TaskDef) → All (λ (d : TaskDef). All (λ s. s < n) d.from) tasks → All (λ s. s < n) (read_tasks tasks)
all_reads n [] h = All-nil (λ s. s < n)
all_reads n (d ∷ tasks) h =
    All-append (λ s. s < n) d.from (read_tasks tasks) (h 0 d (omega arith)) (all_reads n tasks (λ k e lt. h (suc k) e (omega arith)))

all_known : (tasks : List TaskDef) (ks : List ℕ) → All (λ name. is_name name ≡ true) (names_of tasks) → All (λ k. k < length tasks) ks → AllNamed (map (name_of tasks) ks)
all_known tasks [] names below = tt
all_known tasks (k ∷ ks) names below =
    let lt : k < length tasks = below 0 0 (omega arith) in
    (names k [] (omega (arith, length-map tasks (λ (d : TaskDef). d.name))), all_known tasks ks names (λ j d less. below (suc j) d (omega arith)))

-- ---- the number of its work

none_same : (works : List ℕ) (n : ℕ) → All (λ m. m ≢ n) works → list_any (λ other. other == n) works ≡ false
none_same [] n apart = refl
none_same (m ∷ works) n apart =
    or_from (m == n) (list_any (λ other. other == n) works) (ne_eqb m n (apart 0 0 (omega arith))) (none_same works n (λ k d lt. apart (suc k) d (omega arith)))

module _ (customs : ℕ) (done : List TaskDef) (d : TaskDef) (more : List TaskDef) (w : AreCustoms customs (done ++ d ∷ more)) where
  works_are : (n : ℕ) → d.custom ≡ Some n → works_of (done ++ d ∷ more) ≡ works_of done ++ n ∷ works_of more
  works_are n e = filter_map-append (λ (t : TaskDef). t.custom) done (d ∷ more) ∙ ap (λ (o : Option ℕ). works_of done ++ cons_option o (works_of more)) e

  low_at : (o : Option ℕ) → d.custom ≡ o → IsLow o
  low_at None e = omega arith
  low_at (Some n) e = All-seam (λ m. m < 10 ^ 10) (works_of done) n (works_of more) (subst (λ (ws : List ℕ). All (λ m. m < 10 ^ 10) ws) (works_are n e) w.short)

  brought_at : (o : Option ℕ) → d.custom ≡ o → no_work customs (works_of done) o ≡ false
  brought_at None e = refl
  brought_at (Some n) e =
      let below : n < customs = All-seam (λ m. m < customs) (works_of done) n (works_of more) (subst (λ (ws : List ℕ). All (λ m. m < customs) ws) (works_are n e) w.below) in
      let apart : All (λ m. m ≢ n) (works_of done) = apart_seam (works_of done) (n ∷ works_of more) (subst Apart (works_are n e) w.once) 0 n (omega arith) in
      or_from (nat_le customs n) (list_any (λ other. other == n) (works_of done)) (lt-leb customs n (omega arith)) (none_same (works_of done) n apart)

module _ (customs : ℕ) (done : List TaskDef) (d : TaskDef) (more : List TaskDef) (are : AreTasks customs (done ++ d ∷ more)) where
  abbrev whole : List TaskDef
  whole = done ++ d ∷ more

  names_are : names_of whole ≡ names_of done ++ (d.name ∷ names_of more)
  names_are = map-append (λ (e : TaskDef). e.name) done (d ∷ more)

  reads_are : read_tasks whole ≡ read_tasks done ++ (d.from ++ read_tasks more)
  reads_are = flat_map-append (λ (e : TaskDef). e.from) done (d ∷ more)

  long : length done < length whole
  long = omega (arith, length-append done (d ∷ more))

  earlier : All (λ s. s < length done) d.from
  earlier = let f = are.forest in subst (λ (e : TaskDef). All (λ s. s < length done) e.from) (get_or-append_seam done d more d) (f.earlier (length done) d long)

  once : Apart (names_of done ++ (d.name ∷ names_of more))
  once = let n = are.names in subst Apart names_are n.once

  found_at : (k : ℕ) → k < length done → number_of (names_of done) (name_of whole k) ≡ Some k
  found_at k lt =
      ap (λ (names : List (List ℕ)). number_of (names_of done) (get_or names k [])) names_are
      ∙ number_at (names_of done) (d.name ∷ names_of more) k (omega (arith, length-map done (λ (e : TaskDef). e.name))) once

  read_once : Apart (read_tasks done ++ (d.from ++ read_tasks more))
  read_once = let f = are.forest in subst Apart reads_are f.once

  read_below : All (λ s. s < length (names_of whole)) (read_tasks done)
  read_below =
      let f = are.forest in
      let count = length-map whole (λ (e : TaskDef). e.name) in
      All-front (λ s. s < length (names_of whole)) (read_tasks done) (d.from ++ read_tasks more)
      (subst (All (λ s. s < length (names_of whole))) reads_are
      (all_reads (length (names_of whole)) whole (λ t e lt k c less. let low = f.earlier t e lt k c less in omega arith)))

  from_below : All (λ s. s < length (names_of whole)) d.from
  from_below k c less = let low = earlier k c less in let count = length-map whole (λ (e : TaskDef). e.name) in let l = long in omega arith

  stands_here : Stands customs whole done d
  stands_here = record {
    named = let n = are.names in All-seam (λ name. is_name name ≡ true) (names_of done) d.name (names_of more) (subst (All (λ name. is_name name ≡ true)) names_are n.named);
    begins = All-seam (λ (e : TaskDef). Begins e.plan) done d more are.begin;
    inputs = let f = are.forest in length-map d.from (name_of whole) ∙ All-seam (λ (e : TaskDef). length e.from ≡ sides e.plan) done d more f.inputs;
    fresh = number_none (names_of done) d.name (names_of more) once;
    found = λ k c less. found_at _ (earlier k c less);
    known = let n = are.names in all_known whole d.from n.named (λ k c less. let low = earlier k c less in let l = long in omega arith);
    unread = let n = are.names in
        none_again (names_of whole) n.once (read_tasks done) d.from read_below from_below
        (λ j c less i b lt e. apart_seam (read_tasks done) (d.from ++ read_tasks more) read_once j c (omega (arith, length-append d.from (read_tasks more))) i b lt
        (e ∙ sym (get_or_append_left d.from (read_tasks more) c j less)))
        (apart_front d.from (read_tasks more) (apart_back (read_tasks done) (d.from ++ read_tasks more) read_once));
    few = let l = long in let f = are.few in omega arith;
    low = low_at customs done d more are.works d.custom refl;
    fits = let w = are.works in All-seam (λ (e : TaskDef). is_some e.custom ≡ is_table e.plan) done d more w.plans;
    brought = brought_at customs done d more are.works d.custom refl;
  }

pub stands_at : (customs : ℕ) (tasks done : List TaskDef) (d : TaskDef) (more : List TaskDef) → done ++ d ∷ more ≡ tasks → AreTasks customs tasks → Stands customs tasks done d
stands_at customs tasks done d more e are = subst (λ (ts : List TaskDef). Stands customs ts done d) e (stands_here customs done d more (subst (AreTasks customs) (sym e) are))

-- ---- the forms of the tasks' lines

abbrev pub forms_from : List TaskDef → List TaskDef → List Form
forms_from tasks [] = end_line ∷ []
forms_from tasks (d ∷ more) = task_line d.name (said_kind d.custom d.plan (sources tasks d)) ∷ (map text_line (texts_in d.plan) ++ forms_from tasks more)

-- the plan is the one that its words and texts say
plan_back : (number : Option ℕ) (plan : Plan) (names : List (List ℕ)) → Begins plan → plan_of (said_kind number plan names) (texts_in plan) ≡ plan
plan_back number (Lines left) names b = refl
plan_back number (Count next last) names b =
    let few : last ≤ 1000000 = b.1 in
    let same = value_back last (omega arith) in
    λ i. Count (sym b.0 i) (same i)
plan_back number Upper names b = refl
plan_back number (Number next) names b = λ i. Number (sym b i)
plan_back number (Keep prefix) names b = refl
plan_back number (Drop prefix) names b = refl
plan_back number (Tally n) names b = λ i. Tally (sym b i)
plan_back number (Cat side) names b = λ i. Cat (sym b i)
plan_back number (Weave side ended) names b = λ i. Weave (sym b.0 i) (sym b.1 i)
plan_back number (Pin left on) names b =
    let few : left ≤ 1000000 = b.1 in
    let same = value_back left (omega arith) in
    λ i. Pin (same i) (sym b.2 i)
plan_back number (Table table ends) names b = λ i. Table (sym b.0 i) (sym b.1 i)

none_back : (number : Option ℕ) → is_some number ≡ false → None ≡ number
none_back None e = refl
none_back (Some n) e = cc

some_back : (number : Option ℕ) → is_some number ≡ true → IsLow number → Some (value_of (digits_of (unwrap_or number 0))) ≡ number
some_back None e low = cc
some_back (Some n) e low = ap (λ k. Some k) (value_back n low)

-- the number of its work is the one that its words say
pub custom_back : (number : Option ℕ) (plan : Plan) (names : List (List ℕ)) → IsLow number → is_some number ≡ is_table plan → custom_in (said_kind number plan names) ≡ number
custom_back number (Lines left) names low fits = none_back number fits
custom_back number (Count next last) names low fits = none_back number fits
custom_back number Upper names low fits = none_back number fits
custom_back number (Number next) names low fits = none_back number fits
custom_back number (Keep prefix) names low fits = none_back number fits
custom_back number (Drop prefix) names low fits = none_back number fits
custom_back number (Tally n) names low fits = none_back number fits
custom_back number (Cat side) names low fits = none_back number fits
custom_back number (Weave side ended) names low fits = none_back number fits
custom_back number (Pin left on) names low fits = none_back number fits
custom_back number (Table table ends) names low fits = some_back number fits low

numbers_back : (names : List (List ℕ)) (name : ℕ → List ℕ) (ks : List ℕ) → All (λ k. number_of names (name k) ≡ Some k) ks → filter_map (number_of names) (map name ks) ≡ ks
numbers_back names name [] h = refl
numbers_back names name (k ∷ ks) h =
    ap (λ (o : Option ℕ). cons_option o (filter_map (number_of names) (map name ks))) (h 0 0 (omega arith))
    ∙ ap (λ (l : List ℕ). k ∷ l) (numbers_back names name ks (λ j d lt. h (suc j) d (omega arith)))

one_task_back : (customs : ℕ) (tasks done : List TaskDef) (d : TaskDef) → Stands customs tasks done d → task_of (names_of done) d.name (said_kind d.custom d.plan (sources tasks d)) (texts_in d.plan)
    ≡ d
one_task_back customs tasks done d at =
    let plan = plan_back d.custom d.plan (sources tasks d) at.begins in
    let from = ap (filter_map (number_of (names_of done))) (reads_back d.custom d.plan (sources tasks d) at.inputs) ∙ numbers_back (names_of done) (name_of tasks) d.from at.found in
    let custom = custom_back d.custom d.plan (sources tasks d) at.low at.fits in
    λ i. record { name = d.name; plan = plan i; custom = custom i; from = from i }

no_texts : (tasks more : List TaskDef) → texts_of (forms_from tasks more) ≡ []
no_texts tasks [] = refl
no_texts tasks (d ∷ more) = refl

texts_back : (texts : List (List ℕ)) (tasks more : List TaskDef) → texts_of (map text_line texts ++ forms_from tasks more) ≡ texts
texts_back [] tasks more = no_texts tasks more
texts_back (text ∷ texts) tasks more = ap (λ (ts : List (List ℕ)). text ∷ ts) (texts_back texts tasks more)

texts_passed : (names texts : List (List ℕ)) (forms : List Form) → tasks_of names (map text_line texts ++ forms) ≡ tasks_of names forms
texts_passed names [] forms = refl
texts_passed names (text ∷ texts) forms = texts_passed names texts forms

pub tasks_back : (customs : ℕ) (tasks done more : List TaskDef) → done ++ more ≡ tasks → AreTasks customs tasks → tasks_of (names_of done) (forms_from tasks more) ≡ more
tasks_back customs tasks done [] e are = refl
tasks_back customs tasks done (d ∷ more) e are =
    let kind = said_kind d.custom d.plan (sources tasks d) in
    let forms = map text_line (texts_in d.plan) ++ forms_from tasks more in
    let one = ap (task_of (names_of done) d.name kind) (texts_back (texts_in d.plan) tasks more) ∙ one_task_back customs tasks done d (stands_at customs tasks done d more e are) in
    let names : names_of done ++ d.name ∷ [] ≡ names_of (done ++ d ∷ []) = sym (map-append (λ (e : TaskDef). e.name) done (d ∷ [])) in
    let rest = ap (λ (ns : List (List ℕ)). tasks_of ns forms) names ∙ texts_passed (names_of (done ++ d ∷ [])) (texts_in d.plan) (forms_from tasks more)
    ∙ tasks_back customs tasks (done ++ d ∷ []) more (append_assoc done (d ∷ []) more ∙ e) are in
    λ i. one i ∷ rest i

-- no line of a task sets a number of the machine
abbrev SetsNone : (Form → Option ℕ) → Type 0
SetsNone number =
    ((name : List ℕ) (custom : Option ℕ) (plan : Plan) (names : List (List ℕ)) → number (task_line name (said_kind custom plan names)) ≡ None)
    × ((text : List ℕ) → number (text_line text) ≡ None) × (number end_line ≡ None)

none_in_texts : (number : Form → Option ℕ) → SetsNone number → (texts : List (List ℕ)) (forms : List Form) → filter_map number (map text_line texts ++ forms) ≡ filter_map number forms
none_in_texts number none [] forms = refl
none_in_texts number none (text ∷ texts) forms =
    ap (λ (o : Option ℕ). cons_option o (filter_map number (map text_line texts ++ forms))) (none.1 text) ∙ none_in_texts number none texts forms

pub none_set : (number : Form → Option ℕ) → SetsNone number → (tasks more : List TaskDef) → filter_map number (forms_from tasks more) ≡ []
none_set number none tasks [] = ap (λ (o : Option ℕ). cons_option o []) none.2
none_set number none tasks (d ∷ more) =
    ap (λ (o : Option ℕ). cons_option o (filter_map number (map text_line (texts_in d.plan) ++ forms_from tasks more))) (none.0 d.name d.custom d.plan (sources tasks d))
    ∙ none_in_texts number none (texts_in d.plan) (forms_from tasks more) ∙ none_set number none tasks more

-- the last line is the end
texts_then_end : (texts : List (List ℕ)) (forms : List Form) → list_any is_end forms ≡ true → list_any is_end (map text_line texts ++ forms) ≡ true
texts_then_end [] forms e = e
texts_then_end (text ∷ texts) forms e = texts_then_end texts forms e

pub ends : (tasks more : List TaskDef) → list_any is_end (forms_from tasks more) ≡ true
ends tasks [] = refl
ends tasks (d ∷ more) = texts_then_end (texts_in d.plan) (forms_from tasks more) (ends tasks more)
