-- What the reader answers is a script or the first fault.
use Rattle.std.proofs.Common.{◌≡◌, ℕ, suc, ◌+◌, ◌<◌, ◌≤◌, ◌==◌, Bool, true, false, cond, ◌&&◌, List, [], ◌∷◌, ◌++◌, length, take, Option, Some, None, Result, Ok, Err, refl, sym, ap, subst, ◌∙◌}
use Rattle.std.proofs.Common.{append_assoc, inl, inr, ◌⊎◌, lit≤, arith}
use Rattle.std.specs.Prelude.{unwrap_or, nat_lt, ⊤}
use Rattle.std.specs.List.{onto_first, list_any}
use Rattle.std.specs.Option.{option_map, option_to_list}
use Rattle.std.proofs.lemmas.Bool.{ltb-true, ltb-false, le-ltb, leb-false, true≢false}
use Rattle.std.proofs.lemmas.List.{append-nil, length-append, length-take, take_all}
use Rattle.task_script.specs.declared.script.TaskDef.{TaskDef}
use Rattle.task_script.specs.declared.script.Script.{Script}
use Rattle.task_script.specs.declared.script.ScriptFault.{ScriptFault}
use Rattle.task_script.specs.declared.reader.Source.{Source}
use Rattle.task_script.specs.declared.script.ScriptError.{ScriptError}
use Rattle.task_script.specs.declared.script.ScriptError.TheVariants as errors
use Rattle.task_script.specs.Lines.{input_lines}
use Rattle.task_script.specs.Forms.{Kind, lines_kind, count_kind, upper_kind, number_kind, keep_kind, drop_kind, tally_kind, pin_kind, custom_kind, cat_kind, weave_kind, Form, skip_line, cpus_line}
use Rattle.task_script.specs.Forms.{caches_line}
use Rattle.task_script.specs.Forms.{room_line, task_line, text_line, end_line, form_of}
use Rattle.task_script.specs.Script.{shape_of, script_of, given, cpus_in, tasks_of, is_end, SoFar, so_far, faults, lowest, form_code, line_code, code_of, IsFaultless, AreFaultless, IsScript}
use Rattle.task_script.specs.Script.{NotScript, judged_lines, is_over, IsFaulty, faulty_line, no_end, FirstFault}
use Rattle.task_script.specs.Reading.{State, held, start, source_task, all_tasks, opened, added, with_text, next, fault_at, stepped, step, and_then, run, judged, verdict, IsScriptOf, Fails}
use Rattle.task_script.proofs.FormLaws.{is_good}
use Rattle.task_script.proofs.SoFarLaws.{held_next, said, said_next, closed_said}

-- ---- a line

-- the code of a form, from that of its line
code_at : (b : Bool) (o : Option ℕ) → cond b (Some 1) o ≡ None → o ≡ None
code_at true o e = absurd cc
code_at false o e = e

pub form_good : (s : SoFar) (line : List ℕ) (form : Form) → form_of line ≡ Some form → line_code s line ≡ None → form_code s (Some form) ≡ None
form_good s line form is e = ap (form_code s) (sym is) ∙ code_at (nat_lt 4096 (length line)) (form_code s (form_of line)) e

-- what a state has that was read
abbrev pub OnState : (State → Type 0) → Result State ScriptFault → Type 0
OnState P (Err fault) = ⊤
OnState P (Ok t) = P t

-- the script of a reader at the end
unfoldable pub script_at_end : State → Script
script_at_end s = record { shape = shape_of (unwrap_or s.cpus 1) s.caches (length s.tasks); room = unwrap_or s.room 4; tasks = s.tasks }

-- an error that isn't want of memory
pub refused : {Y : Type 0} (error : ScriptError) (read : Result Y ScriptFault) → Fails error read → (fault : ScriptFault) → error ≡ errors.Bad fault → read ≡ Err fault
refused errors.NoMemory read h fault e = absurd cc
refused (errors.Bad other) read h fault e = let same : other ≡ fault = cc in rw (← same) h

-- ---- where the caller brings so many works

module _ (customs : ℕ) where
  abbrev LineHolds : ℕ → State → List Form → List ℕ → Result State ScriptFault → Type 0
  LineHolds number s before line (Err fault) = (fault.line ≡ number) × (line_code (so_far customs before) line ≡ Some fault.code)
  LineHolds number s before line (Ok t) =
      (form : Form) × (IsFaultless customs before line form × ((held t ≡ so_far customs (before ++ form ∷ [])) × ((forms : List Form) → said t forms ≡ said s (form ∷ forms))))

  module _ (number : ℕ) (s : State) (before : List Form) (f : held s ≡ so_far customs before) (line : List ℕ) where
    same_code : line_code (held s) line ≡ line_code (so_far customs before) line
    same_code = ap (λ (h : SoFar). line_code h line) f

    stepped_holds : (code : Option ℕ) (form : Option Form) → line_code (held s) line ≡ code → form_of line ≡ form → LineHolds number s before line (stepped number s code form)
    stepped_holds (Some code) form e is = (refl, sym same_code ∙ e)
    stepped_holds None None e is = let none = ap (form_code (held s)) (sym is) ∙ code_at (nat_lt 4096 (length line)) (form_code (held s) (form_of line)) e in absurd cc
    stepped_holds None (Some form) e is =
        let good = form_good (held s) line form is e in
        (form, (record { formed = is; good = sym same_code ∙ e }, (held_next customs s before f form good, said_next s form good)))

    step_holds : LineHolds number s before line (step number s line)
    unfolding step
    step_holds = stepped_holds _ _ refl refl

  -- ---- all lines

  -- the first faulty line among these
  pub record FaultIn (number : ℕ) (before : List Form) (lines : List (List ℕ)) (fault : ScriptFault) : Type 0 where
    pub front : List (List ℕ)
    pub forms : List Form
    pub line : List ℕ
    pub more : List (List ℕ)
    pub whole : lines ≡ front ++ line ∷ more
    pub faultless : AreFaultless customs before front forms
    pub faulty : line_code (so_far customs (before ++ forms)) line ≡ Some fault.code
    pub numbered : fault.line ≡ number + length front

  -- all of these lines are faultless
  pub record AllRead (s : State) (before : List Form) (lines : List (List ℕ)) (t : State) : Type 0 where
    pub forms : List Form
    pub faultless : AreFaultless customs before lines forms
    pub held_is : held t ≡ so_far customs (before ++ forms)
    pub tasks : all_tasks t ≡ said s forms

  abbrev RunHolds : ℕ → State → List Form → List (List ℕ) → Result State ScriptFault → Type 0
  RunHolds number s before lines (Err fault) = FaultIn number before lines fault
  RunHolds number s before lines (Ok t) = AllRead s before lines t

  later_holds : (number : ℕ) (s t : State) (before : List Form) (line : List ℕ) (lines : List (List ℕ)) (form : Form) → IsFaultless customs before line form
      → ((forms : List Form) → said t forms ≡ said s (form ∷ forms))
      → (r : Result State ScriptFault) → RunHolds (number + 1) t (before ++ form ∷ []) lines r → RunHolds number s before (line ∷ lines) r
  later_holds number s t before line lines form fl same (Err fault) h =
      record {
        front = line ∷ h.front;
        forms = form ∷ h.forms;
        line = h.line;
        more = h.more;
        whole = ap (λ (ls : List (List ℕ)). line ∷ ls) h.whole;
        faultless = (fl, h.faultless);
        faulty = ap (λ (fs : List Form). line_code (so_far customs fs) h.line) (sym (append_assoc before (form ∷ []) h.forms)) ∙ h.faulty;
        numbered = let n = h.numbered in omega arith;
      }
  later_holds number s t before line lines form fl same (Ok u) h =
      record {
        forms = form ∷ h.forms;
        faultless = (fl, h.faultless);
        held_is = h.held_is ∙ ap (so_far customs) (append_assoc before (form ∷ []) h.forms);
        tasks = h.tasks ∙ same h.forms;
      }

  line_then : (number : ℕ) (s : State) (before : List Form) (line : List ℕ) (lines : List (List ℕ)) → (r : Result State ScriptFault) → LineHolds number s before line r
      → ((t : State) (form : Form) → held t ≡ so_far customs (before ++ form ∷ []) → RunHolds (number + 1) t (before ++ form ∷ []) lines (run (number + 1) t lines))
      → RunHolds number s before (line ∷ lines) (and_then r (λ t. run (number + 1) t lines))
  line_then number s before line lines (Err fault) h again =
      record {
        front = [];
        forms = [];
        line = line;
        more = lines;
        whole = refl;
        faultless = tt;
        faulty = ap (λ (fs : List Form). line_code (so_far customs fs) line) (append-nil before) ∙ h.1;
        numbered = let n = h.0 in omega arith;
      }
  line_then number s before line lines (Ok t) h again =
      later_holds number s t before line lines h.0 h.1.0 h.1.1.1 (run (number + 1) t lines) (again t h.0 h.1.1.0)

  run_holds : (number : ℕ) (s : State) (before : List Form) → held s ≡ so_far customs before → (lines : List (List ℕ)) → RunHolds number s before lines (run number s lines)
  run_holds number s before f [] =
      record { forms = []; faultless = tt; held_is = f ∙ ap (so_far customs) (sym (append-nil before)); tasks = sym (closed_said s.tasks s.source [] [] refl ∙ append-nil (all_tasks s)) }
  run_holds number s before f (line ∷ lines) =
      line_then number s before line lines (step number s line) (step_holds number s before f line) (λ t form g. run_holds (number + 1) t (before ++ form ∷ []) g lines)

  -- ---- faultless lines are passed

  step_passes : (number : ℕ) (s : State) (before : List Form) → held s ≡ so_far customs before → (line : List ℕ) (form : Form) → IsFaultless customs before line form
      → step number s line ≡ Ok (next s form)
  unfolding step
  step_passes number s before f line form fl = rw (same_code number s before f line, fl.good, fl.formed) refl

  step_stops : (number : ℕ) (s : State) (before : List Form) → held s ≡ so_far customs before → (line : List ℕ) (code : ℕ) → line_code (so_far customs before) line ≡ Some code
      → step number s line ≡ Err (fault_at number code)
  unfolding step
  step_stops number s before f line code e = rw (same_code number s before f line, e) refl

  -- the reader behind faultless lines
  record Passed (number : ℕ) (s : State) (before : List Form) (front : List (List ℕ)) (forms : List Form) : Type 0 where
    state : State
    held_is : held state ≡ so_far customs (before ++ forms)
    passes : (rest : List (List ℕ)) → run number s (front ++ rest) ≡ run (number + length front) state rest

  passes_on : (number : ℕ) (s : State) (before : List Form) → held s ≡ so_far customs before → (front : List (List ℕ)) (forms : List Form) → AreFaultless customs before front forms
      → Passed number s before front forms
  passes_on number s before f [] [] all =
      record { state = s; held_is = f ∙ ap (so_far customs) (sym (append-nil before)); passes = λ rest. let n : number ≡ number + 0 = omega arith in ap (λ (k : ℕ). run k s rest) n }
  passes_on number s before f [] (form ∷ forms) all = absurd all
  passes_on number s before f (line ∷ front) [] all = absurd all
  passes_on number s before f (line ∷ front) (form ∷ forms) all =
      let fl = all.0 in
      let good = form_good (so_far customs before) line form fl.formed fl.good in
      let g = held_next customs s before f form (ap (λ (h : SoFar). form_code h (Some form)) f ∙ good) in
      let on = passes_on (number + 1) (next s form) (before ++ form ∷ []) g front forms all.1 in
      record {
        state = on.state;
        held_is = on.held_is ∙ ap (so_far customs) (append_assoc before (form ∷ []) forms);
        passes = λ rest.
            let n : number + 1 + length front ≡ number + suc (length front) = omega arith in
            ap (λ (r : Result State ScriptFault). and_then r (λ t. run (number + 1) t (front ++ rest))) (step_passes number s before f line form fl)
            ∙ on.passes rest ∙ ap (λ (k : ℕ). run k on.state rest) n;
      }

  -- ---- what the reader keeps

  -- no source is open behind `end`, each name is a task's, and there are at most 200
  pub record Keeps (s : State) : Type 0 where
    pub closed : s.ended ≡ true → s.source ≡ None
    pub counted : length (all_tasks s) ≡ length s.names
    pub few : length s.names ≤ 200

  start_keeps : Keeps (start customs)
  start_keeps = record { closed = λ e. refl; counted = refl; few = lit≤ tt }

  not_ended : (b : Bool) (o : Option ℕ) → cond (b && true) (Some 12) o ≡ None → b ≡ false
  not_ended true o e = absurd cc
  not_ended false o e = refl

  text_counted : (source : Option Source) (text : List ℕ) → length (option_to_list (option_map source_task (with_text source text))) ≡ length (option_to_list (option_map source_task source))
  text_counted None text = refl
  text_counted (Some source) text = refl

  one_added : (names : List (List ℕ)) (name : List ℕ) (kind : Kind) → length (added names name kind) + length (option_to_list (option_map source_task (opened name kind))) ≡ 1
  one_added names name lines_kind = refl
  one_added names name (count_kind number) = refl
  one_added names name (upper_kind source) = refl
  one_added names name (number_kind source) = refl
  one_added names name (keep_kind prefix source) = refl
  one_added names name (drop_kind prefix source) = refl
  one_added names name (tally_kind source) = refl
  one_added names name (pin_kind number source) = refl
  one_added names name (custom_kind number source) = refl
  one_added names name (cat_kind first second) = refl
  one_added names name (weave_kind first second) = refl

  settled_keeps : (s t : State) → Keeps s → t.source ≡ None → t.tasks ≡ all_tasks s → t.names ≡ s.names → Keeps t
  settled_keeps s t k none tasks names =
      record {
        closed = λ e. none;
        counted = rw (none, tasks, names, append-nil (all_tasks s)) k.counted;
        few = rw names k.few;
      }

  next_keeps : (s : State) (form : Form) → form_code (held s) (Some form) ≡ None → Keeps s → Keeps (next s form)
  next_keeps s skip_line e k = k
  next_keeps s (cpus_line number) e k = settled_keeps s (next s (cpus_line number)) k refl refl refl
  next_keeps s (caches_line number) e k = settled_keeps s (next s (caches_line number)) k refl refl refl
  next_keeps s (room_line number) e k = settled_keeps s (next s (room_line number)) k refl refl refl
  next_keeps s (task_line name kind) e k =
      let open_still = not_ended s.ended (lowest (faults (held s) (task_line name kind))) e in
      let room : length s.names < 200 = leb-false 200 (length s.names) (is_good (held s) (task_line name kind) e).few in
      let more = length-append s.names (name ∷ []) in
      let counted = k.counted in
      let one = one_added s.names name kind in
      record {
        closed = λ ended. absurd (true≢false (sym ended ∙ open_still));
        counted = omega (
          arith,
          length-append (all_tasks s ++ added s.names name kind) (option_to_list (option_map source_task (opened name kind))),
          length-append (all_tasks s) (added s.names name kind),
        );
        few = omega arith;
      }
  next_keeps s (text_line text) e k =
      let open_still = not_ended s.ended (lowest (faults (held s) (text_line text))) e in
      let counted = k.counted in
      record {
        closed = λ ended. absurd (true≢false (sym ended ∙ open_still));
        counted = omega (
          arith,
          length-append s.tasks (option_to_list (option_map source_task (with_text s.source text))),
          length-append s.tasks (option_to_list (option_map source_task s.source)),
          text_counted s.source text,
        );
        few = k.few;
      }
  next_keeps s end_line e k = settled_keeps s (next s end_line) k refl refl refl

  stepped_keeps : (number : ℕ) (s : State) (line : List ℕ) → Keeps s → (code : Option ℕ) (form : Option Form) → line_code (held s) line ≡ code → form_of line ≡ form
      → OnState Keeps (stepped number s code form)
  stepped_keeps number s line k (Some code) form e is = tt
  stepped_keeps number s line k None None e is = k
  stepped_keeps number s line k None (Some form) e is = next_keeps s form (form_good (held s) line form is e) k

  step_keeps : (number : ℕ) (s : State) (line : List ℕ) → Keeps s → OnState Keeps (step number s line)
  unfolding step
  step_keeps number s line k = stepped_keeps number s line k (line_code (held s) line) (form_of line) refl refl

  then_keeps : (r : Result State ScriptFault) (more : State → Result State ScriptFault) → OnState Keeps r → ((t : State) → Keeps t → OnState Keeps (more t)) → OnState Keeps (and_then r more)
  then_keeps (Err fault) more k again = tt
  then_keeps (Ok t) more k again = again t k

  run_keeps : (number : ℕ) (s : State) → Keeps s → (lines : List (List ℕ)) → OnState Keeps (run number s lines)
  run_keeps number s k [] = k
  run_keeps number s k (line ∷ lines) =
      then_keeps (step number s line) (λ t. run (number + 1) t lines) (step_keeps number s line k) (λ t g. run_keeps (number + 1) t g lines)

  ended_keeps : (b : Bool) (t : State) (fault : ScriptFault) → Keeps t → OnState Keeps (cond b (Ok t) (Err fault))
  ended_keeps true t fault k = k
  ended_keeps false t fault k = tt

  judged_keeps : (over : Bool) (lines : ℕ) (r : Result State ScriptFault) → OnState Keeps r → OnState Keeps (judged over lines r)
  judged_keeps over lines (Err fault) k = tt
  judged_keeps true lines (Ok t) k = tt
  judged_keeps false lines (Ok t) k = ended_keeps t.ended t (fault_at (lines + 1) 11) k

  pub verdict_keeps : (bytes : List ℕ) (s : State) → verdict customs bytes ≡ Ok s → Keeps s
  unfolding verdict
  verdict_keeps bytes s e =
      subst (OnState Keeps) e (judged_keeps (is_over bytes) (length (judged_lines bytes)) (run 1 (start customs) (judged_lines bytes)) (run_keeps 1 (start customs) start_keeps (judged_lines bytes)))

  -- ---- the whole input: what the reader answers holds

  code_from : (over : Bool) (more : List (List ℕ)) (s : SoFar) (line : List ℕ) (code : ℕ) → line_code s line ≡ Some code → code_of over more s line ≡ Some code
  code_from true [] s line code e = ap (λ (o : Option ℕ). Some (unwrap_or o 16)) e
  code_from true (next ∷ more) s line code e = e
  code_from false more s line code e = e

  some_line : (bytes : List ℕ) → 0 < length bytes → 0 < length (input_lines bytes)
  some_line [] some = absurd (omega arith)
  some_line (byte ∷ bytes) some =
      elim (byte == 10) as (λ b. 0 < length (cond b ([] ∷ input_lines bytes) (onto_first byte (input_lines bytes)))) [
        | true ↦ omega arith
        | false ↦ onto_some (input_lines bytes)
      ]
    where
      onto_some : (lines : List (List ℕ)) → 0 < length (onto_first byte lines)
      onto_some [] = omega arith
      onto_some (line ∷ lines) = omega arith

  -- the last of faultless lines
  record LastLine (before : List Form) (lines : List (List ℕ)) : Type 0 where
    front : List (List ℕ)
    forms : List Form
    line : List ℕ
    whole : lines ≡ front ++ line ∷ []
    faultless : AreFaultless customs before front forms
    good : line_code (so_far customs (before ++ forms)) line ≡ None

  last_line : (before : List Form) (lines : List (List ℕ)) (forms : List Form) → 0 < length lines → AreFaultless customs before lines forms → LastLine before lines
  last_line before [] forms some all = absurd (omega arith)
  last_line before (line ∷ lines) [] some all = absurd all
  last_line before (line ∷ []) (form ∷ forms) some all =
      record { front = []; forms = []; line = line; whole = refl; faultless = tt; good = ap (λ (fs : List Form). line_code (so_far customs fs) line) (append-nil before) ∙ all.0.good }
  last_line before (line ∷ next ∷ lines) (form ∷ forms) some all =
      let h = last_line (before ++ form ∷ []) (next ∷ lines) forms (omega arith) all.1 in
      record {
        front = line ∷ h.front;
        forms = form ∷ h.forms;
        line = h.line;
        whole = ap (λ (ls : List (List ℕ)). line ∷ ls) h.whole;
        faultless = (all.0, h.faultless);
        good = ap (λ (fs : List Form). line_code (so_far customs fs) h.line) (sym (append_assoc before (form ∷ []) h.forms)) ∙ h.good;
      }

  all_judged : (bytes : List ℕ) → is_over bytes ≡ false → judged_lines bytes ≡ input_lines bytes
  all_judged bytes e = let fits : length bytes ≤ 16777216 = ltb-false 16777216 (length bytes) e in ap input_lines (take_all 16777217 bytes (omega arith))

  start_held : held (start customs) ≡ so_far customs []
  start_held = refl

  abbrev pub VerdictHolds : List ℕ → Result State ScriptFault → Type 0
  VerdictHolds bytes (Err fault) = FirstFault customs bytes fault.line fault.code
  VerdictHolds bytes (Ok s) = (script : Script) → IsScriptOf s script → IsScript customs bytes script

  module _ (bytes : List ℕ) where
    over_holds : is_over bytes ≡ true → (t : State) → AllRead (start customs) [] (judged_lines bytes) t → FirstFault customs bytes (length (judged_lines bytes)) 16
    over_holds e t h =
        let many : 16777216 < length bytes = ltb-true 16777216 (length bytes) e in
        let some : 0 < length (take 16777217 bytes) = omega (arith, length-take 16777217 bytes) in
        let last = last_line [] (judged_lines bytes) h.forms (some_line (take 16777217 bytes) some) h.faultless in
        let code : code_of (is_over bytes) [] (so_far customs last.forms) last.line ≡ Some 16 =
        ap (λ (b : Bool). code_of b [] (so_far customs last.forms) last.line) e ∙ ap (λ (o : Option ℕ). Some (unwrap_or o 16)) last.good in
        record {
          front = last.front;
          forms = last.forms;
          faultless = last.faultless;
          faulty = faulty_line last.line [] last.whole code;
          numbered = ap length last.whole ∙ length-append last.front (last.line ∷ []);
        }

    unended_holds : is_over bytes ≡ false → (t : State) → t.ended ≡ false → AllRead (start customs) [] (judged_lines bytes) t → FirstFault customs bytes (length (judged_lines bytes) + 1) 11
    unended_holds e t open_end h =
        record {
          front = judged_lines bytes;
          forms = h.forms;
          faultless = h.faultless;
          faulty = no_end e refl (sym (ap (λ (r : SoFar). r.ended) h.held_is) ∙ open_end) refl;
          numbered = refl;
        }

    fault_holds : (fault : ScriptFault) → FaultIn 1 [] (judged_lines bytes) fault → FirstFault customs bytes fault.line fault.code
    fault_holds fault h =
        record {
          front = h.front;
          forms = h.forms;
          faultless = h.faultless;
          faulty = faulty_line h.line h.more h.whole (code_from (is_over bytes) h.more (so_far customs h.forms) h.line fault.code h.faulty);
          numbered = let n = h.numbered in omega arith;
        }

    script_holds : is_over bytes ≡ false → (t : State) → t.ended ≡ true → Keeps t → AllRead (start customs) [] (judged_lines bytes) t
        → (script : Script) → IsScriptOf t script → IsScript customs bytes script
    script_holds e t ended keeps h script is =
        let said_tasks : t.tasks ≡ tasks_of [] h.forms = sym (append-nil t.tasks) ∙ ap (λ (o : Option Source). t.tasks ++ option_to_list (option_map source_task o)) (sym (keeps.closed ended))
        ∙ h.tasks in
        let cpus = ap (λ (r : SoFar). r.cpus) h.held_is in
        let caches = ap (λ (r : SoFar). r.caches) h.held_is in
        let room = is.2 ∙ ap (λ (r : SoFar). unwrap_or r.room 4) h.held_is in
        let tasks = is.0 ∙ said_tasks in
        let shape = is.1 ∙ ap (λ (ts : List TaskDef). shape_of (unwrap_or t.cpus 1) t.caches (length ts)) said_tasks
        ∙ ap (λ (o : Option ℕ). shape_of (unwrap_or o 1) t.caches (length (tasks_of [] h.forms))) cpus
        ∙ ap (λ (o : Option ℕ). shape_of (unwrap_or (given cpus_in h.forms) 1) o (length (tasks_of [] h.forms))) caches in
        record {
          within = ltb-false 16777216 (length bytes) e;
          forms = h.forms;
          faultless = subst (λ (ls : List (List ℕ)). AreFaultless customs [] ls h.forms) (all_judged bytes e) h.faultless;
          ended = sym (ap (λ (r : SoFar). r.ended) h.held_is) ∙ ended;
          says = λ i. record { shape = shape i; room = room i; tasks = tasks i };
        }

    ended_holds : is_over bytes ≡ false → (t : State) → Keeps t → AllRead (start customs) [] (judged_lines bytes) t → (b : Bool) → t.ended ≡ b
        → VerdictHolds bytes (cond b (Ok t) (Err (fault_at (length (judged_lines bytes) + 1) 11)))
    ended_holds e t keeps h true ended = script_holds e t ended keeps h
    ended_holds e t keeps h false ended = unended_holds e t ended h

    read_holds : (t : State) → Keeps t → AllRead (start customs) [] (judged_lines bytes) t → (b : Bool) → is_over bytes ≡ b
        → VerdictHolds bytes (judged b (length (judged_lines bytes)) (Ok t))
    read_holds t keeps h true e = over_holds e t h
    read_holds t keeps h false e = ended_holds e t keeps h t.ended refl

    run_verdict : (r : Result State ScriptFault) → OnState Keeps r → RunHolds 1 (start customs) [] (judged_lines bytes) r
        → VerdictHolds bytes (judged (is_over bytes) (length (judged_lines bytes)) r)
    run_verdict (Err fault) keeps h = fault_holds fault h
    run_verdict (Ok t) keeps h = read_holds t keeps h (is_over bytes) refl

    pub verdict_holds : VerdictHolds bytes (verdict customs bytes)
    unfolding verdict
    verdict_holds =
        let lines = judged_lines bytes in
        run_verdict (run 1 (start customs) lines) (run_keeps 1 (start customs) start_keeps lines) (run_holds 1 (start customs) [] start_held lines)

    pub script_verdict : (script : Script) → IsScript customs bytes script → (s : State) × (verdict customs bytes ≡ Ok s)
    unfolding verdict
    script_verdict script a =
        let whole : is_over bytes ≡ false = le-ltb 16777216 (length bytes) a.within in
        let on = passes_on 1 (start customs) [] start_held (input_lines bytes) a.forms a.faultless in
        let ran : run 1 (start customs) (input_lines bytes) ≡ Ok on.state = ap (run 1 (start customs)) (sym (append-nil (input_lines bytes))) ∙ on.passes [] in
        let ended : on.state.ended ≡ true = ap (λ (r : SoFar). r.ended) on.held_is ∙ a.ended in
        (on.state, rw (whole, all_judged bytes whole, ran, ended) refl)

  -- the verdict, when it is that of a script and that of a fault
  pub script_found : (bytes : List ℕ) (s : State) (script : Script) → verdict customs bytes ≡ Ok s → IsScriptOf s script → IsScript customs bytes script
  script_found bytes s script e is = subst (VerdictHolds bytes) e (verdict_holds bytes) script is

  pub fault_found : (bytes : List ℕ) (fault : ScriptFault) → verdict customs bytes ≡ Err fault → FirstFault customs bytes fault.line fault.code
  fault_found bytes fault e = subst (VerdictHolds bytes) e (verdict_holds bytes)

  pub not_script : (bytes : List ℕ) (fault : ScriptFault) → verdict customs bytes ≡ Err fault → NotScript customs bytes
  not_script bytes fault e = λ script a. let s = script_verdict bytes script a in let both = sym e ∙ s.1 in absurd cc

  -- lines have one list of forms
  same_form : (o : Option Form) (form other : Form) → o ≡ Some form → o ≡ Some other → form ≡ other
  same_form o form other d e = cc

  module _ (more : ℕ) where
    one_reading : (before : List Form) (lines : List (List ℕ)) (forms others : List Form) → AreFaultless customs before lines forms → AreFaultless more before lines others → forms ≡ others
    one_reading before [] [] [] a b = refl
    one_reading before [] [] (other ∷ others) a b = absurd b
    one_reading before [] (form ∷ forms) others a b = absurd a
    one_reading before (line ∷ lines) [] others a b = absurd a
    one_reading before (line ∷ lines) (form ∷ forms) [] a b = absurd b
    one_reading before (line ∷ lines) (form ∷ forms) (other ∷ others) a b =
        let same = same_form _ _ _ a.0.formed b.0.formed in
        let rest = one_reading (before ++ form ∷ []) lines forms others a.1 (subst (λ (g : Form). AreFaultless more (before ++ g ∷ []) lines others) (sym same) b.1) in
        λ i. same i ∷ rest i

    pub one_script : (bytes : List ℕ) (script other : Script) → IsScript customs bytes script → IsScript more bytes other → other ≡ script
    one_script bytes script other a b =
        b.says ∙ ap script_of (sym (one_reading [] (input_lines bytes) a.forms b.forms a.faultless b.faultless)) ∙ sym a.says

  pub few_tasks : (bytes : List ℕ) (s : State) → verdict customs bytes ≡ Ok s → length s.tasks ≤ 200
  few_tasks bytes s e = let keeps = verdict_keeps bytes s e in let counted = keeps.counted in let few = keeps.few in
      omega (arith, length-append s.tasks (option_to_list (option_map source_task s.source)))

  -- ---- the first fault is the reader's

  form_there : (s : SoFar) (line : List ℕ) → line_code s line ≡ None → (form : Form) × (form_of line ≡ Some form)
  form_there s line e = at (form_of line) refl
    where
      at : (o : Option Form) → form_of line ≡ o → (form : Form) × (form_of line ≡ Some form)
      at None is = let none = ap (form_code s) (sym is) ∙ code_at (nat_lt 4096 (length line)) (form_code s (form_of line)) e in absurd cc
      at (Some form) is = (form, is)

  module _ (bytes : List ℕ) (front : List (List ℕ)) (forms : List Form) (all : AreFaultless customs [] front forms) where
    behind : Passed 1 (start customs) [] front forms
    behind = passes_on 1 (start customs) [] start_held front forms all

    -- a line that has a code of its own
    stops_at : (line : List ℕ) (more : List (List ℕ)) (code : ℕ) → judged_lines bytes ≡ front ++ line ∷ more → line_code (so_far customs forms) line ≡ Some code
        → verdict customs bytes ≡ Err (fault_at (length front + 1) code)
    unfolding verdict
    stops_at line more code whole e =
        let on = behind in
        let number : 1 + length front ≡ length front + 1 = omega arith in
        let ran : run 1 (start customs) (judged_lines bytes) ≡ Err (fault_at (length front + 1) code) =
        ap (run 1 (start customs)) whole ∙ on.passes (line ∷ more)
        ∙ ap (λ (r : Result State ScriptFault). and_then r (λ t. run (1 + length front + 1) t more)) (step_stops (1 + length front) on.state forms on.held_is line code e)
        ∙ ap (λ (n : ℕ). Err (fault_at n code)) number in
        rw ran refl

    -- the last line, which has the byte too many
    stops_over : (line : List ℕ) → is_over bytes ≡ true → judged_lines bytes ≡ front ++ line ∷ [] → line_code (so_far customs forms) line ≡ None
        → verdict customs bytes ≡ Err (fault_at (length front + 1) 16)
    unfolding verdict
    stops_over line over whole e =
        let on = behind in
        let form = form_there (so_far customs forms) line e in
        let fl : IsFaultless customs forms line form.0 = record { formed = form.1; good = e } in
        let ran : run 1 (start customs) (judged_lines bytes) ≡ Ok (next on.state form.0) =
        ap (run 1 (start customs)) whole ∙ on.passes (line ∷ [])
        ∙ ap (λ (r : Result State ScriptFault). and_then r (λ t. run (1 + length front + 1) t [])) (step_passes (1 + length front) on.state forms on.held_is line form.0 fl) in
        let number : length (judged_lines bytes) ≡ length front + 1 = ap length whole ∙ length-append front (line ∷ []) in
        rw (over, ran, number) refl

    -- no line is faulty, and `end` hasn't stood
    stops_without_end : is_over bytes ≡ false → judged_lines bytes ≡ front → list_any is_end forms ≡ false → verdict customs bytes ≡ Err (fault_at (length front + 1) 11)
    unfolding verdict
    stops_without_end over whole open_end =
        let on = behind in
        let ran : run 1 (start customs) (judged_lines bytes) ≡ Ok on.state = ap (run 1 (start customs)) (whole ∙ sym (append-nil front)) ∙ on.passes [] in
        let ended : on.state.ended ≡ false = ap (λ (r : SoFar). r.ended) on.held_is ∙ open_end in
        let number : length (judged_lines bytes) ≡ length front = ap length whole in
        rw (over, ran, ended, number) refl

    line_stops : (line : List ℕ) (more : List (List ℕ)) (code : ℕ) (own : Option ℕ) → judged_lines bytes ≡ front ++ line ∷ more → line_code (so_far customs forms) line ≡ own
        → (over : Bool) → is_over bytes ≡ over → code_of over more (so_far customs forms) line ≡ Some code → verdict customs bytes ≡ Err (fault_at (length front + 1) code)
    line_stops line more code (Some own) whole e over is faulty =
        let same : own ≡ code = let c = sym (code_from over more (so_far customs forms) line own e) ∙ faulty in cc in
        subst (λ (n : ℕ). verdict customs bytes ≡ Err (fault_at (length front + 1) n)) same (stops_at line more own whole e)
    line_stops line [] code None whole e true is faulty =
        let same : 16 ≡ code = let c = ap (λ (o : Option ℕ). Some (unwrap_or o 16)) (sym e) ∙ faulty in cc in
        subst (λ (n : ℕ). verdict customs bytes ≡ Err (fault_at (length front + 1) n)) same (stops_over line is whole e)
    line_stops line (other ∷ more) code None whole e true is faulty = let c = sym e ∙ faulty in absurd cc
    line_stops line more code None whole e false is faulty = let c = sym e ∙ faulty in absurd cc

    faulty_stops : (code : ℕ) → IsFaulty bytes front (so_far customs forms) code → verdict customs bytes ≡ Err (fault_at (length front + 1) code)
    faulty_stops code (faulty_line line more whole faulty) = line_stops line more code (line_code (so_far customs forms) line) whole refl (is_over bytes) refl faulty
    faulty_stops code (no_end over whole open_end eleven) =
        subst (λ (n : ℕ). verdict customs bytes ≡ Err (fault_at (length front + 1) n)) (sym eleven) (stops_without_end over whole open_end)

  fault_verdict : (bytes : List ℕ) (line code : ℕ) → FirstFault customs bytes line code → verdict customs bytes ≡ Err (fault_at line code)
  fault_verdict bytes line code h =
      subst (λ (n : ℕ). verdict customs bytes ≡ Err (fault_at n code)) (sym h.numbered) (faulty_stops bytes h.front h.forms h.faultless code h.faulty)

  -- ---- each input is one script, or has one first fault

  some_verdict : (bytes : List ℕ) (r : Result State ScriptFault) → VerdictHolds bytes r → ((s : Script) × IsScript customs bytes s) ⊎ ((f : ScriptFault) × FirstFault customs bytes f.line f.code)
  unfolding script_at_end
  some_verdict bytes (Ok s) h = inl (script_at_end s, h (script_at_end s) (refl, refl, refl))
  some_verdict bytes (Err fault) h = inr (fault, h)

  pub script_or_fault : (bytes : List ℕ) → ((s : Script) × IsScript customs bytes s) ⊎ ((f : ScriptFault) × FirstFault customs bytes f.line f.code)
  script_or_fault bytes = some_verdict bytes (verdict customs bytes) (verdict_holds bytes)

  pub not_both : (bytes : List ℕ) (script : Script) (line code : ℕ) → IsScript customs bytes script → FirstFault customs bytes line code → ⊥
  not_both bytes script line code a h = let s = script_verdict bytes script a in let both = sym s.1 ∙ fault_verdict bytes line code h in cc

  abbrev failed : ScriptFault → Result State ScriptFault
  failed fault = Err fault

  same_fault : (line code other_line other_code : ℕ) → failed (fault_at line code) ≡ failed (fault_at other_line other_code) → (line ≡ other_line) × (code ≡ other_code)
  same_fault line code other_line other_code e = let f : fault_at line code ≡ fault_at other_line other_code = cc in (ap (λ (g : ScriptFault). g.line) f, ap (λ (g : ScriptFault). g.code) f)

  pub one_fault : (bytes : List ℕ) (line code other_line other_code : ℕ) → FirstFault customs bytes line code → FirstFault customs bytes other_line other_code
      → (line ≡ other_line) × (code ≡ other_code)
  one_fault bytes line code other_line other_code a b = same_fault line code other_line other_code (sym (fault_verdict bytes line code a) ∙ fault_verdict bytes other_line other_code b)
