-- No line that is written has a fault.
use Rattle.std.proofs.Common.{◌≡◌, ℕ, ◌<◌, ◌≤◌, Bool, true, false, cond, ◌&&◌, ◌||◌, not, List, [], ◌∷◌, ◌++◌, length, map, Option, Some, None, refl, sym, ap, ◌∙◌, append_assoc, arith}
use Rattle.std.specs.Prelude.{codes, unwrap_or}
use Rattle.std.specs.Option.{is_some, is_none, option_to_list}
use Rattle.std.specs.List.{All, AllByRecursion, cons_option, filter, filter_map, flat_map, last_or, list_any}
use Rattle.std.proofs.lemmas.Bool.{le-ltb, lt-leb, or_from}
use Rattle.std.proofs.lemmas.Grind.{flat_map-append}
use Rattle.std.proofs.lemmas.List.{append-nil, length-map, map-append}
use Rattle.std.proofs.lemmas.List.Elements.{All-tail, filter-append, filter_map-append}
use Rattle.std.proofs.lemmas.List.Folds.{list_any-append}
use Rattle.task_script.specs.declared.plan.Plan.{Plan}
use Rattle.task_script.specs.declared.plan.Plan.TheVariants.{Lines, Count, Upper, Number, Keep, Drop, Tally, Cat, Weave, Pin, Table}
use Rattle.task_script.specs.declared.script.TaskDef.{TaskDef}
use Rattle.task_script.specs.Forest.{reads as read_tasks}
use Rattle.task_script.specs.Forms.{Kind, reads, Form, task_line, text_line, end_line, form_of}
use Rattle.task_script.specs.Script.{number_of, given, cpus_in, caches_in, room_in, named_in, read_in, works_in, custom_in, is_no_work, is_kept, is_end, takes_text, SoFar, so_far, has_bad_count}
use Rattle.task_script.specs.Script.{lacks_task, reads_again, faults, lowest, form_code, line_code, IsFaultless, AreFaultless}
use Rattle.task_script.specs.Valid.{names_of, works_of, IsText, Begins}
use Rattle.task_script.specs.Script.{bad_number, bad_name, name_twice, no_such_task, already_read, too_many, bad_order, bad_custom, text_without_task}
use Rattle.script_writer.specs.Spelling.{spaced, name_of, task_words, spelled_text, texts_in}
use Rattle.script_writer.proofs.NumberLaws.{within_back, number_is}
use Rattle.script_writer.proofs.LineBack.{IsLow, said_kind, reads_back, end_back, text_back, task_back}
use Rattle.script_writer.proofs.TaskBack.{AreTasks, Stands, no_work, custom_back, sources, stands_at, forms_from}

-- ---- a line

-- no fault of a line of this form comes, after lines that come to this
pub record IsGood (s : SoFar) (form : Form) : Type 0 where
  pub numbers : bad_number s form ≡ false
  pub named : bad_name form ≡ false
  pub fresh : name_twice s form ≡ false
  pub found : no_such_task s form ≡ false
  pub unread : already_read s form ≡ false
  pub few : too_many s form ≡ false
  pub ordered : bad_order s form ≡ false
  pub brought : bad_custom s form ≡ false
  pub behind : text_without_task s form ≡ false

nine_false : (a b c d e f g h i : Bool) → a ≡ false → b ≡ false → c ≡ false → d ≡ false → e ≡ false → f ≡ false → g ≡ false → h ≡ false → i ≡ false
    → lowest ((3, a) ∷ (4, b) ∷ (5, c) ∷ (6, d) ∷ (7, e) ∷ (8, f) ∷ (10, g) ∷ (13, h) ∷ (14, i) ∷ []) ≡ None
nine_false a b c d e f g h i ea eb ec ed ee ef eg eh ei = rw (ea, eb, ec, ed, ee, ef, eg, eh, ei) refl

good_form : (s : SoFar) (form : Form) → s.ended ≡ false → IsGood s form → form_code s (Some form) ≡ None
good_form s form going good =
    ap (λ (b : Bool). cond (b && is_kept form) (Some 12) (lowest (faults s form))) going
    ∙ nine_false _ _ _ _ _ _ _ _ _ good.numbers good.named good.fresh good.found good.unread good.few good.ordered good.brought good.behind

abbrev pub IsShort : List ℕ → Type 0
IsShort line = length line ≤ 4096

pub good_line : (customs : ℕ) (before : List Form) (s : SoFar) (line : List ℕ) (form : Form) → so_far customs before ≡ s → form_of line ≡ Some form → IsShort line → s.ended ≡ false
    → IsGood s form → IsFaultless customs before line form
good_line customs before s line form at is short going good = record {
  formed = is;
  good = ap (λ (t : SoFar). line_code t line) at ∙ ap (λ (b : Bool). cond b (Some 1) (form_code s (form_of line))) (le-ltb 4096 (length line) short) ∙ ap (form_code s) is
      ∙ good_form s form going good;
}

-- ---- what lines come to with one more

last_push : {A : Type 0} (o : Option A) (xs : List A) (x : A) → last_or o (xs ++ x ∷ []) ≡ Some x
last_push o [] x = refl
last_push o (y ∷ xs) x = last_push (Some y) xs x

-- the machine is said, and these tasks
abbrev pub at_tasks : ℕ → ℕ → ℕ → ℕ → List (List ℕ) → List (List ℕ) → List ℕ → Bool → SoFar
at_tasks c g r customs names sources works texts =
    record { cpus = Some c; caches = Some g; room = Some r; names = names; sources = sources; customs = customs; works = works; texts = texts; ended = false }

module _ (c g r customs : ℕ) (names read : List (List ℕ)) (works : List ℕ) (texts : Bool) (before : List Form)
    (at : so_far customs before ≡ at_tasks c g r customs names read works texts) where
  same_number : (number : Form → Option ℕ) (form : Form) → filter_map number (form ∷ []) ≡ [] → given number (before ++ form ∷ []) ≡ given number before
  same_number number form none =
      ap (last_or None) (filter_map-append number before (form ∷ []) ∙ ap (λ (ns : List ℕ). filter_map number before ++ ns) none ∙ append-nil _)

  more_names : {X : Type 0} (named : Form → List X) (form : Form) → flat_map named (before ++ form ∷ []) ≡ flat_map named before ++ named form
  more_names {X} named form = flat_map-append named before (form ∷ []) ∙ ap (λ (ns : List X). flat_map named before ++ ns) (append-nil (named form))

  last_takes : (form : Form) → filter is_kept (form ∷ []) ≡ form ∷ [] → takes_text (last_or None (filter is_kept (before ++ form ∷ []))) ≡ takes_text (Some form)
  last_takes form kept =
      ap (λ (fs : List Form). takes_text (last_or None fs)) (filter-append is_kept before (form ∷ []) ∙ ap (λ (fs : List Form). filter is_kept before ++ fs) kept)
      ∙ ap takes_text (last_push None (filter is_kept before) form)

  still_going : (form : Form) → is_end form ≡ false → list_any is_end (before ++ form ∷ []) ≡ false
  still_going form other =
      list_any-append is_end before (form ∷ []) ∙ or_from (list_any is_end before) (is_end form || false) (ap (λ (s : SoFar). s.ended) at) (or_from (is_end form) false other refl)

  pub with_task : (name : List ℕ) (kind : Kind)
      → so_far customs (before ++ task_line name kind ∷ [])
      ≡ at_tasks c g r customs (names ++ name ∷ []) (read ++ reads kind) (works ++ option_to_list (custom_in kind)) (takes_text (Some (task_line name kind)))
  with_task name kind =
      let form = task_line name kind in
      let cpus = same_number cpus_in form refl ∙ ap (λ (s : SoFar). s.cpus) at in
      let caches = same_number caches_in form refl ∙ ap (λ (s : SoFar). s.caches) at in
      let room = same_number room_in form refl ∙ ap (λ (s : SoFar). s.room) at in
      let named = more_names named_in form ∙ ap (λ (s : SoFar). s.names ++ name ∷ []) at in
      let sourced = more_names read_in form ∙ ap (λ (s : SoFar). s.sources ++ reads kind) at in
      let worked = more_names works_in form ∙ ap (λ (s : SoFar). s.works ++ option_to_list (custom_in kind)) at in
      let taken = last_takes form refl in
      let going = still_going form refl in
      λ i. record { cpus = cpus i; caches = caches i; room = room i; names = named i; sources = sourced i; customs = customs; works = worked i; texts = taken i; ended = going i }

  pub with_text : (text : List ℕ) → so_far customs (before ++ text_line text ∷ []) ≡ at_tasks c g r customs names read works true
  with_text text =
      let form = text_line text in
      let cpus = same_number cpus_in form refl ∙ ap (λ (s : SoFar). s.cpus) at in
      let caches = same_number caches_in form refl ∙ ap (λ (s : SoFar). s.caches) at in
      let room = same_number room_in form refl ∙ ap (λ (s : SoFar). s.room) at in
      let named = more_names named_in form ∙ append-nil (flat_map named_in before) ∙ ap (λ (s : SoFar). s.names) at in
      let sourced = more_names read_in form ∙ append-nil (flat_map read_in before) ∙ ap (λ (s : SoFar). s.sources) at in
      let worked = more_names works_in form ∙ append-nil (flat_map works_in before) ∙ ap (λ (s : SoFar). s.works) at in
      let taken = last_takes form refl in
      let going = still_going form refl in
      λ i. record { cpus = cpus i; caches = caches i; room = room i; names = named i; sources = sourced i; customs = customs; works = worked i; texts = taken i; ended = going i }

-- ---- a task's lines

count_good : (number : Option ℕ) (plan : Plan) (names : List (List ℕ)) → IsLow number → Begins plan → has_bad_count (said_kind number plan names) ≡ false
count_good number (Lines left) names low b = refl
count_good number (Count next last) names low b =
    let few : last ≤ 1000000 = b.1 in ap not (within_back 0 1000000 last (omega arith) few (omega arith))
count_good number Upper names low b = refl
count_good number (Number next) names low b = refl
count_good number (Keep prefix) names low b = refl
count_good number (Drop prefix) names low b = refl
count_good number (Tally n) names low b = refl
count_good number (Cat side) names low b = refl
count_good number (Weave side ended) names low b = refl
count_good number (Pin left on) names low b =
    let few : left ≤ 1000000 = b.1 in ap not (within_back 1 1000000 left b.0 few (omega arith))
count_good number (Table table ends) names low b = ap not (number_is (unwrap_or number 0) low)

same_no_work : (s : SoFar) (number : Option ℕ) → is_no_work s number ≡ no_work s.customs s.works number
same_no_work s None = refl
same_no_work s (Some n) = refl

all_found : (names : List (List ℕ)) (name : ℕ → List ℕ) (ks : List ℕ) → All (λ k. number_of names (name k) ≡ Some k) ks → lacks_task names (map name ks) ≡ false
all_found names name [] h = refl
all_found names name (k ∷ ks) h =
    or_from (is_none (number_of names (name k))) (lacks_task names (map name ks)) (ap (λ (o : Option ℕ). is_none o) (h 0 0 (omega arith)))
    (all_found names name ks (All-tail (λ n. number_of names (name n) ≡ Some n) k ks h))

task_good : (c g r customs : ℕ) (tasks done : List TaskDef) (texts : Bool) (d : TaskDef) → Stands customs tasks done d
    → IsGood (at_tasks c g r customs (names_of done) (map (name_of tasks) (read_tasks done)) (works_of done) texts) (task_line d.name (said_kind d.custom d.plan (sources tasks d)))
task_good c g r customs tasks done texts d at =
    let s = at_tasks c g r customs (names_of done) (map (name_of tasks) (read_tasks done)) (works_of done) texts in
    let same = reads_back d.custom d.plan (sources tasks d) at.inputs in
    let count = length-map done (λ (e : TaskDef). e.name) in
    let few = at.few in
    record {
      numbers = count_good d.custom d.plan (sources tasks d) at.low at.begins;
      named = ap not at.named;
      fresh = ap (λ (o : Option ℕ). is_some o) at.fresh;
      found = ap (lacks_task (names_of done)) same ∙ all_found (names_of done) (name_of tasks) d.from at.found;
      unread = ap (reads_again (map (name_of tasks) (read_tasks done))) same ∙ at.unread;
      few = lt-leb 200 (length (names_of done)) (omega arith);
      ordered = refl;
      brought = ap (is_no_work s) (custom_back d.custom d.plan (sources tasks d) at.low at.fits) ∙ same_no_work s d.custom ∙ at.brought;
      behind = refl;
    }

-- texts stand behind a source alone
takes_texts : (name : List ℕ) (number : Option ℕ) (plan : Plan) (names : List (List ℕ)) → 0 < length (texts_in plan) → takes_text (Some (task_line name (said_kind number plan names))) ≡ true
takes_texts name number (Lines left) names some = refl
takes_texts name number (Count next last) names some = absurd (omega arith)
takes_texts name number Upper names some = absurd (omega arith)
takes_texts name number (Number next) names some = absurd (omega arith)
takes_texts name number (Keep prefix) names some = absurd (omega arith)
takes_texts name number (Drop prefix) names some = absurd (omega arith)
takes_texts name number (Tally n) names some = absurd (omega arith)
takes_texts name number (Cat side) names some = absurd (omega arith)
takes_texts name number (Weave side ended) names some = absurd (omega arith)
takes_texts name number (Pin left on) names some = absurd (omega arith)
takes_texts name number (Table table ends) names some = absurd (omega arith)

pub are_texts : (plan : Plan) → Begins plan → All IsText (texts_in plan)
are_texts (Lines left) b = b
are_texts (Count next last) b = λ k d lt. absurd (omega arith)
are_texts Upper b = λ k d lt. absurd (omega arith)
are_texts (Number next) b = λ k d lt. absurd (omega arith)
are_texts (Keep prefix) b = λ k d lt. absurd (omega arith)
are_texts (Drop prefix) b = λ k d lt. absurd (omega arith)
are_texts (Tally n) b = λ k d lt. absurd (omega arith)
are_texts (Cat side) b = λ k d lt. absurd (omega arith)
are_texts (Weave side ended) b = λ k d lt. absurd (omega arith)
are_texts (Pin left on) b = λ k d lt. absurd (omega arith)
are_texts (Table table ends) b = λ k d lt. absurd (omega arith)

module _ (c g r customs : ℕ) (names read : List (List ℕ)) (works : List ℕ) (later : List (List ℕ)) (forms : List Form)
    (go : (before : List Form) (texts : Bool) → so_far customs before ≡ at_tasks c g r customs names read works texts → AllByRecursion IsShort later → AreFaultless customs before later forms) where
  pub texts_faultless : (texts : List (List ℕ)) (takes : Bool) (before : List Form) → so_far customs before ≡ at_tasks c g r customs names read works takes → (0 < length texts → takes ≡ true) → All
      IsText texts
      → AllByRecursion IsShort (map spelled_text texts ++ later) → AreFaultless customs before (map spelled_text texts ++ later) (map text_line texts ++ forms)
  texts_faultless [] takes before at may are short = go before takes at short
  texts_faultless (text ∷ texts) takes before at may are short =
      let good : IsGood (at_tasks c g r customs names read works takes) (text_line text) =
      record { numbers = refl; named = refl; fresh = refl; found = refl; unread = refl; few = refl; ordered = refl; brought = refl; behind = ap not (may (omega arith)) } in (
        good_line customs before (at_tasks c g r customs names read works takes) (spelled_text text) (text_line text) at (text_back text (are 0 text (omega arith))) short.0 refl good,
        texts_faultless texts true (before ++ text_line text ∷ []) (with_text c g r customs names read works takes before at text) (λ some. refl) (All-tail IsText text texts are) short.1,
      )

-- ---- all tasks

-- the lines of these tasks among all, and the end
abbrev pub lines_from : List TaskDef → List TaskDef → List (List ℕ)
lines_from tasks [] = codes "end" ∷ []
lines_from tasks (d ∷ more) = spaced (task_words tasks d) ∷ (map spelled_text (texts_in d.plan) ++ lines_from tasks more)

end_good : (c g r customs : ℕ) (names read : List (List ℕ)) (works : List ℕ) (texts : Bool) → IsGood (at_tasks c g r customs names read works texts) end_line
end_good c g r customs names read works texts =
    record { numbers = refl; named = refl; fresh = refl; found = refl; unread = refl; few = refl; ordered = refl; brought = refl; behind = refl }

one_work : (number : Option ℕ) → cons_option number [] ≡ option_to_list number
one_work None = refl
one_work (Some n) = refl

pub tasks_faultless : (c g r customs : ℕ) (tasks : List TaskDef) → AreTasks customs tasks → (done more : List TaskDef) → done ++ more ≡ tasks → (before : List Form) (texts : Bool)
    → so_far customs before ≡ at_tasks c g r customs (names_of done) (map (name_of tasks) (read_tasks done)) (works_of done) texts → AllByRecursion IsShort (lines_from tasks more)
    → AreFaultless customs before (lines_from tasks more) (forms_from tasks more)
tasks_faultless c g r customs tasks are done [] e before texts at short = (
  good_line customs before (at_tasks c g r customs (names_of done) (map (name_of tasks) (read_tasks done)) (works_of done) texts) (codes "end") end_line at end_back short.0 refl
      (end_good c g r customs (names_of done) (map (name_of tasks) (read_tasks done)) (works_of done) texts),
  tt,
)
tasks_faultless c g r customs tasks are done (d ∷ more) e before texts at short =
    let stands = stands_at customs tasks done d more e are in
    let names = names_of done in
    let read = map (name_of tasks) (read_tasks done) in
    let kind = said_kind d.custom d.plan (sources tasks d) in
    let named : names ++ d.name ∷ [] ≡ names_of (done ++ d ∷ []) = sym (map-append (λ (e : TaskDef). e.name) done (d ∷ [])) in
    let all_read : read ++ reads kind ≡ map (name_of tasks) (read_tasks (done ++ d ∷ [])) =
    ap (λ (ns : List (List ℕ)). read ++ ns) (reads_back d.custom d.plan (sources tasks d) stands.inputs) ∙ sym (map-append (name_of tasks) (read_tasks done) d.from)
    ∙ ap (map (name_of tasks))
    (sym (flat_map-append (λ (e : TaskDef). e.from) done (d ∷ []) ∙ ap (λ (ks : List ℕ). read_tasks done ++ ks) (append-nil d.from))) in
    let works = works_of done in
    let worked : works ++ option_to_list (custom_in kind) ≡ works_of (done ++ d ∷ []) =
    ap (λ (o : Option ℕ). works ++ option_to_list o) (custom_back d.custom d.plan (sources tasks d) stands.low stands.fits) ∙ sym (filter_map-append (λ (e : TaskDef). e.custom) done (d ∷ [])
    ∙ ap (λ (ns : List ℕ). works ++ ns) (one_work d.custom)) in
    let takes = takes_text (Some (task_line d.name kind)) in
    let after : so_far customs (before ++ task_line d.name kind ∷ []) ≡ at_tasks c g r customs (names_of (done ++ d ∷ [])) (map (name_of tasks) (read_tasks (done ++ d ∷ []))) (works_of (done ++ d ∷
    [])) takes =
    with_task c g r customs names read works texts before at d.name kind ∙ (λ i. at_tasks c g r customs (named i) (all_read i) (worked i) takes) in (
      good_line customs before (at_tasks c g r customs names read works texts) (spaced (task_words tasks d)) (task_line d.name kind) at
          (task_back d.name d.custom d.plan (sources tasks d) stands.named stands.low stands.begins stands.inputs stands.known) short.0 refl (task_good c g r customs tasks done texts d stands),
      texts_faultless c g r customs (names_of (done ++ d ∷ [])) (map (name_of tasks) (read_tasks (done ++ d ∷ []))) (works_of (done ++ d ∷ [])) (lines_from tasks more) (forms_from tasks more)
          (λ later takes is few. tasks_faultless c g r customs tasks are (done ++ d ∷ []) more (append_assoc done (d ∷ []) more ∙ e) later takes is few)
          (texts_in d.plan) takes (before ++ task_line d.name kind ∷ []) after (takes_texts d.name d.custom d.plan (sources tasks d)) (are_texts d.plan stands.begins) short.1,
    )
