-- What lines come to with one line more.
use Rattle.std.proofs.Common.{◌≡◌, ℕ, Bool, true, false, ◌||◌, List, [], ◌∷◌, ◌++◌, Option, Some, None, refl, sym, ap, ◌∙◌, append_assoc}
use Rattle.std.specs.List.{last_or, filter, filter_map, flat_map, list_any}
use Rattle.std.specs.Option.{is_some, option_map, option_to_list}
use Rattle.std.proofs.lemmas.Bool.{not-false}
use Rattle.std.proofs.lemmas.List.{append-nil}
use Rattle.std.proofs.lemmas.List.Elements.{filter-append, filter_map-append}
use Rattle.std.proofs.lemmas.List.Folds.{list_any-append}
use Rattle.std.proofs.lemmas.Grind.{flat_map-append}
use Rattle.task_script.specs.declared.reader.Source.{Source}
use Rattle.task_script.specs.declared.script.TaskDef.{TaskDef}
use Rattle.task_script.specs.Forms.{Kind, lines_kind, count_kind, upper_kind, number_kind, keep_kind, drop_kind, tally_kind, pin_kind, custom_kind, cat_kind, weave_kind, reads, value_of, Form}
use Rattle.task_script.specs.Forms.{skip_line}
use Rattle.task_script.specs.Forms.{cpus_line, caches_line, room_line, task_line, text_line, end_line}
use Rattle.task_script.specs.Script.{task_of, tasks_of, texts_of, given, cpus_in, caches_in, room_in, custom_in, named_in, read_in, works_in, is_kept, is_end, takes_text, SoFar, so_far, form_code}
use Rattle.task_script.specs.Reading.{State, held, source_task, all_tasks, opened, added, with_text, next}
use Rattle.task_script.proofs.FormLaws.{is_good}

last_push : {A : Type 0} (o : Option A) (xs : List A) (x : A) → last_or o (xs ++ x ∷ []) ≡ Some x
last_push o [] x = refl
last_push o (y ∷ xs) x = last_push (Some y) xs x

given_none : (number : Form → Option ℕ) (before : List Form) (form : Form) → filter_map number (form ∷ []) ≡ [] → given number (before ++ form ∷ []) ≡ given number before
given_none number before form none =
    ap (last_or None) (filter_map-append number before (form ∷ []) ∙ ap (λ (ns : List ℕ). filter_map number before ++ ns) none ∙ append-nil _)

given_some : (number : Form → Option ℕ) (before : List Form) (form : Form) (n : ℕ) → filter_map number (form ∷ []) ≡ n ∷ [] → given number (before ++ form ∷ []) ≡ Some n
given_some number before form n one =
    ap (last_or None) (filter_map-append number before (form ∷ []) ∙ ap (λ (ns : List ℕ). filter_map number before ++ ns) one) ∙ last_push None (filter_map number before) n

module _ {A : Type 0} where
  flat_push : (names : Form → List A) (before : List Form) (form : Form) → flat_map names (before ++ form ∷ []) ≡ flat_map names before ++ names form
  flat_push names before form = flat_map-append names before (form ∷ []) ∙ ap (λ (ns : List A). flat_map names before ++ ns) (append-nil (names form))

  flat_none : (names : Form → List A) (before : List Form) (form : Form) → names form ≡ [] → flat_map names (before ++ form ∷ []) ≡ flat_map names before
  flat_none names before form none = flat_push names before form ∙ ap (λ (ns : List A). flat_map names before ++ ns) none ∙ append-nil _

or_false : (b : Bool) → (b || false) ≡ b
or_false true = refl
or_false false = refl

or_true : (b : Bool) → (b || true) ≡ true
or_true true = refl
or_true false = refl

same_so_far : (customs : ℕ) (s : State) (forms : List Form) → s.cpus ≡ given cpus_in forms → s.caches ≡ given caches_in forms → s.room ≡ given room_in forms
    → s.names ≡ flat_map named_in forms → s.sources ≡ flat_map read_in forms → is_some s.source ≡ takes_text (last_or None (filter is_kept forms))
    → s.ended ≡ list_any is_end forms → s.customs ≡ customs → s.works ≡ flat_map works_in forms → held s ≡ so_far customs forms
same_so_far customs s forms a b c d e f g h w =
    λ i. record { cpus = a i; caches = b i; room = c i; names = d i; sources = e i; texts = f i; ended = g i; customs = h i; works = w i }

opened_takes : (name : List ℕ) (kind : Kind) → is_some (opened name kind) ≡ takes_text (Some (task_line name kind))
opened_takes name lines_kind = refl
opened_takes name (count_kind number) = refl
opened_takes name (upper_kind source) = refl
opened_takes name (number_kind source) = refl
opened_takes name (keep_kind prefix source) = refl
opened_takes name (drop_kind prefix source) = refl
opened_takes name (tally_kind source) = refl
opened_takes name (pin_kind number source) = refl
opened_takes name (custom_kind number source) = refl
opened_takes name (cat_kind first second) = refl
opened_takes name (weave_kind first second) = refl

texts_good : (s : SoFar) (text : List ℕ) → form_code s (Some (text_line text)) ≡ None → s.texts ≡ true
texts_good s text e = not-false _ (is_good s (text_line text) e).behind

with_text_some : (source : Option Source) (text : List ℕ) → is_some (with_text source text) ≡ is_some source
with_text_some None text = refl
with_text_some (Some source) text = refl

module _ (customs : ℕ) (s : State) (before : List Form) (f : held s ≡ so_far customs before) where
  cpus_stay : (form : Form) → filter_map cpus_in (form ∷ []) ≡ [] → s.cpus ≡ given cpus_in (before ++ form ∷ [])
  cpus_stay form e = ap (λ (r : SoFar). r.cpus) f ∙ sym (given_none cpus_in before form e)

  caches_stay : (form : Form) → filter_map caches_in (form ∷ []) ≡ [] → s.caches ≡ given caches_in (before ++ form ∷ [])
  caches_stay form e = ap (λ (r : SoFar). r.caches) f ∙ sym (given_none caches_in before form e)

  room_stays : (form : Form) → filter_map room_in (form ∷ []) ≡ [] → s.room ≡ given room_in (before ++ form ∷ [])
  room_stays form e = ap (λ (r : SoFar). r.room) f ∙ sym (given_none room_in before form e)

  names_stay : (form : Form) → named_in form ≡ [] → s.names ≡ flat_map named_in (before ++ form ∷ [])
  names_stay form e = ap (λ (r : SoFar). r.names) f ∙ sym (flat_none named_in before form e)

  sources_stay : (form : Form) → read_in form ≡ [] → s.sources ≡ flat_map read_in (before ++ form ∷ [])
  sources_stay form e = ap (λ (r : SoFar). r.sources) f ∙ sym (flat_none read_in before form e)

  works_stay : (form : Form) → works_in form ≡ [] → s.works ≡ flat_map works_in (before ++ form ∷ [])
  works_stay form e = ap (λ (r : SoFar). r.works) f ∙ sym (flat_none works_in before form e)

  customs_stay : s.customs ≡ customs
  customs_stay = ap (λ (r : SoFar). r.customs) f

  ended_stays : (form : Form) → is_end form ≡ false → s.ended ≡ list_any is_end (before ++ form ∷ [])
  ended_stays form e =
      ap (λ (r : SoFar). r.ended) f ∙ sym (list_any-append is_end before (form ∷ []) ∙ ap (λ (b : Bool). list_any is_end before || (b || false)) e ∙ or_false _)

  texts_then : (form : Form) → filter is_kept (form ∷ []) ≡ form ∷ [] → takes_text (Some form) ≡ takes_text (last_or None (filter is_kept (before ++ form ∷ [])))
  texts_then form e =
      sym (ap (λ (fs : List Form). takes_text (last_or None fs)) (filter-append is_kept before (form ∷ []) ∙ ap (λ (fs : List Form). filter is_kept before ++ fs) e)
      ∙ ap takes_text (last_push None (filter is_kept before) form))

  pub held_next : (form : Form) → form_code (held s) (Some form) ≡ None → held (next s form) ≡ so_far customs (before ++ form ∷ [])
  held_next skip_line e =
      same_so_far customs s (before ++ skip_line ∷ []) (cpus_stay skip_line refl) (caches_stay skip_line refl) (room_stays skip_line refl) (names_stay skip_line refl) (sources_stay skip_line refl)
      (ap (λ (r : SoFar). r.texts) f ∙ sym (ap (λ (fs : List Form). takes_text (last_or None fs)) (filter-append is_kept before (skip_line ∷ []) ∙ append-nil _)))
      (ended_stays skip_line refl) customs_stay (works_stay skip_line refl)
  held_next (cpus_line number) e =
      let form = cpus_line number in
      same_so_far customs (next s form) (before ++ form ∷ []) (sym (given_some cpus_in before form (value_of number) refl)) (caches_stay form refl) (room_stays form refl) (names_stay form refl)
      (sources_stay form refl)
      (texts_then form refl) (ended_stays form refl) customs_stay (works_stay form refl)
  held_next (caches_line number) e =
      let form = caches_line number in
      same_so_far customs (next s form) (before ++ form ∷ []) (cpus_stay form refl) (sym (given_some caches_in before form (value_of number) refl)) (room_stays form refl) (names_stay form refl)
      (sources_stay form refl)
      (texts_then form refl) (ended_stays form refl) customs_stay (works_stay form refl)
  held_next (room_line number) e =
      let form = room_line number in
      same_so_far customs (next s form) (before ++ form ∷ []) (cpus_stay form refl) (caches_stay form refl) (sym (given_some room_in before form (value_of number) refl)) (names_stay form refl)
      (sources_stay form refl)
      (texts_then form refl) (ended_stays form refl) customs_stay (works_stay form refl)
  held_next (task_line name kind) e =
      let form = task_line name kind in
      same_so_far customs (next s form) (before ++ form ∷ []) (cpus_stay form refl) (caches_stay form refl) (room_stays form refl)
      (ap (λ (r : SoFar). r.names ++ name ∷ []) f ∙ sym (flat_push named_in before form)) (ap (λ (r : SoFar). r.sources ++ reads kind) f ∙ sym (flat_push read_in before form))
      (opened_takes name kind ∙ texts_then form refl) (ended_stays form refl) customs_stay
      (ap (λ (r : SoFar). r.works ++ option_to_list (custom_in kind)) f ∙ sym (flat_push works_in before form))
  held_next (text_line text) e =
      let form = text_line text in
      same_so_far customs (next s form) (before ++ form ∷ []) (cpus_stay form refl) (caches_stay form refl) (room_stays form refl) (names_stay form refl) (sources_stay form refl)
      (with_text_some s.source text ∙ texts_good (held s) text e ∙ texts_then form refl) (ended_stays form refl) customs_stay (works_stay form refl)
  held_next end_line e =
      let form = end_line in
      same_so_far customs (next s form) (before ++ form ∷ []) (cpus_stay form refl) (caches_stay form refl) (room_stays form refl) (names_stay form refl) (sources_stay form refl)
      (texts_then form refl) (sym (list_any-append is_end before (end_line ∷ []) ∙ or_true _)) customs_stay (works_stay form refl)

-- ---- the tasks that the reader and the lines to come say

abbrev open_said : Option Source → List Form → List TaskDef
open_said None forms = []
open_said (Some source) forms = task_of [] source.name lines_kind (source.texts ++ texts_of forms) ∷ []

abbrev pub said : State → List Form → List TaskDef
said s forms = s.tasks ++ (open_said s.source forms ++ tasks_of s.names forms)

pub closed_said : (tasks : List TaskDef) (source : Option Source) (later : List Form) (more : List TaskDef) → texts_of later ≡ []
    → tasks ++ (open_said source later ++ more) ≡ (tasks ++ option_to_list (option_map source_task source)) ++ more
closed_said tasks None later more none = rw append-nil refl
closed_said tasks (Some source) later more none =
    rw (none, append-nil source.texts) (sym (append_assoc tasks (source_task source ∷ []) more))

added_said : (names : List (List ℕ)) (name : List ℕ) (kind : Kind) (forms : List Form)
    → added names name kind ++ open_said (opened name kind) forms ≡ task_of names name kind (texts_of forms) ∷ []
added_said names name lines_kind forms = refl
added_said names name (count_kind number) forms = refl
added_said names name (upper_kind source) forms = refl
added_said names name (number_kind source) forms = refl
added_said names name (keep_kind prefix source) forms = refl
added_said names name (drop_kind prefix source) forms = refl
added_said names name (tally_kind source) forms = refl
added_said names name (pin_kind number source) forms = refl
added_said names name (custom_kind number source) forms = refl
added_said names name (cat_kind first second) forms = refl
added_said names name (weave_kind first second) forms = refl

skip_said : (source : Option Source) (forms : List Form) → open_said source forms ≡ open_said source (skip_line ∷ forms)
skip_said None forms = refl
skip_said (Some source) forms = refl

text_said : (source : Option Source) (text : List ℕ) (forms : List Form) → is_some source ≡ true
    → open_said (with_text source text) forms ≡ open_said source (text_line text ∷ forms)
text_said None text forms e = absurd cc
text_said (Some source) text forms e = rw (append_assoc source.texts (text ∷ []) (texts_of forms)) refl

pub said_next : (s : State) (form : Form) → form_code (held s) (Some form) ≡ None → (forms : List Form) → said (next s form) forms ≡ said s (form ∷ forms)
said_next s skip_line e forms = ap (λ (ts : List TaskDef). s.tasks ++ (ts ++ tasks_of s.names forms)) (skip_said s.source forms)
said_next s (cpus_line number) e forms = sym (closed_said s.tasks s.source (cpus_line number ∷ forms) (tasks_of s.names forms) refl)
said_next s (caches_line number) e forms = sym (closed_said s.tasks s.source (caches_line number ∷ forms) (tasks_of s.names forms) refl)
said_next s (room_line number) e forms = sym (closed_said s.tasks s.source (room_line number ∷ forms) (tasks_of s.names forms) refl)
said_next s (task_line name kind) e forms =
    let rest = tasks_of (s.names ++ name ∷ []) forms in
    let task = task_of s.names name kind (texts_of forms) in
    append_assoc (all_tasks s) (added s.names name kind) (open_said (opened name kind) forms ++ rest)
    ∙ ap (λ (ts : List TaskDef). all_tasks s ++ ts) (sym (append_assoc (added s.names name kind) (open_said (opened name kind) forms) rest)
    ∙ ap (λ (ts : List TaskDef). ts ++ rest) (added_said s.names name kind forms))
    ∙ sym (closed_said s.tasks s.source (task_line name kind ∷ forms) (task ∷ rest) refl)
said_next s (text_line text) e forms = ap (λ (ts : List TaskDef). s.tasks ++ (ts ++ tasks_of s.names forms)) (text_said s.source text forms (texts_good (held s) text e))
said_next s end_line e forms = sym (closed_said s.tasks s.source (end_line ∷ forms) (tasks_of s.names forms) refl)
